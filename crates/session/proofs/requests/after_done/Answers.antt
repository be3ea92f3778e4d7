-- `requests::after_done` meets its contract. Assumes nothing.
use native.Mathlib.Omega.{arith}
use Rattle.answers.specs.Lengths.{done-short}
use Rattle.session.specs.Answers.{used}
use Rattle.session.proofs.requests.after_done.Goals as goal

pub put_done-next-requires : goal.put_done-next-requires
put_done-next-requires c =
    let a = c.args.after in
    record { fits = omega (arith, done-short a.report a.reply) }

pub returns : goal.returns
returns c = used c.put_done-next.ensures c.in_use.ensures
