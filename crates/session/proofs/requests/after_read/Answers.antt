-- `requests::after_read` meets its contract. Assumes nothing.
use native.Mathlib.Omega.{arith}
use Rattle.answers.specs.Lengths.{read_short}
use Rattle.session.specs.Answers.{used}
use Rattle.session.proofs.requests.after_read.Goals as goal

pub put_read-next-requires : goal.put_read-next-requires
put_read-next-requires c =
    let a = c.args.after in
    record { fits = omega (arith, read_short a.report a.reply) }

pub returns : goal.returns
returns c = used c.put_read-next.ensures c.in_use.ensures
