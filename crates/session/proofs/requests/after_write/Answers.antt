-- `requests::after_write` meets its contract. Assumes nothing.
use native.Mathlib.Omega.{arith}
use Rattle.answers.specs.Lengths.{write-short}
use Rattle.session.specs.Answers.{used}
use Rattle.session.proofs.requests.after_write.Goals as goal

pub put_write-next-requires : goal.put_write-next-requires
put_write-next-requires c =
    let a = c.args.after in
    record { fits = omega (arith, write-short a.report a.reply) }

pub returns : goal.returns
returns c = used c.put_write-next.ensures c.in_use.ensures
