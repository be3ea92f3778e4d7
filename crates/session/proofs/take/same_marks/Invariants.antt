-- What each loop of `take::same_marks` keeps, and what gets less.
use mathlib.Core.Path.{◌≡◌}
use Rattle.session.specs.HandOuts.{marked}
use Rattle.session.proofs.take.same_marks.Given as goal

abbrev pub invariant-loop-i : goal.invariant-loop-i
invariant-loop-i l = marked l.from l.lent ≡ marked l.i l.lent
