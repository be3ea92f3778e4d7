-- `row::answer` meets its contract. Assumes nothing.
use native.Mathlib.Omega.{arith}
use Rattle.access.proofs.row.answer.Goals as goal

pub overflow_add-passes-2 : goal.overflow_add-passes-2
overflow_add-passes-2 c =
    let pre = c.requires in
    omega (arith, pre.made, pre.passes)

pub returns : goal.returns
returns c =
    rw (
      c.answer.ensures,
      c.second_times.ensures,
      c.first_times.ensures,
      c.notices_of-notices.ensures,
      c.unmodelled_source-source.ensures,
    )
