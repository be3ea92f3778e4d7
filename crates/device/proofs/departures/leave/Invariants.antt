-- What each loop of `departures::leave` keeps, and what gets less.
use Prim.Native.Nat.{◌-◌, ◌≤◌}
use Rattle.device.specs.Leaves.{Leaves}
use Rattle.device.proofs.departures.leave.Given as goal

abbrev pub invariant-loop-i : goal.invariant-loop-i
invariant-loop-i l =
    (l.i ≤ l.n) × Leaves l.i l.bytes l.initial.from l.initial.to l.initial.left l.from l.to l.left

abbrev pub decreases-loop-i : goal.decreases-loop-i
decreases-loop-i l =
    l.n - l.i
