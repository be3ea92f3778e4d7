-- What each loop of `take::marks` keeps, and what gets less.
use mathlib.Core.Path.{◌≡◌}
use lib.ListN.{length, take}
use Rattle.session.specs.Requests.{marks_from}
use Rattle.session.proofs.take.marks.Given as goal

abbrev pub invariant-loop-i : goal.invariant-loop-i
invariant-loop-i l = (8192 ≡ length l.slot-items) × (take l.i l.slot-items ≡ marks_from 0 l.i)
