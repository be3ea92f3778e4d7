-- `requests::after_row` meets its contract. Assumes nothing.
use native.Mathlib.Omega.{arith}
use Rattle.answers.specs.Lengths.{row-short}
use Rattle.session.specs.Answers.{used}
use Rattle.session.proofs.requests.after_row.Goals as goal

pub put_row-next-requires : goal.put_row-next-requires
put_row-next-requires c =
    let a = c.args.after in
    record { fits = omega (arith, row-short a.report a.reply) }

pub returns : goal.returns
returns c = used c.put_row-next.ensures c.in_use.ensures
