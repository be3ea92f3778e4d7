-- What each loop of `counted` keeps, and what gets less.
use native.Mathlib.Omega.{arith}
use mathlib.Core.Path.{◌≡◌}
use Prim.Native.Nat.{◌-◌, ◌≤◌}
use lib.ListN.{length, length-set}
use Rattle.bench_settling.proofs.counted.Given as goal

abbrev pub invariant-loop-i : goal.invariant-loop-i
invariant-loop-i l =
    (length l.bytes ≡ 1000) × (l.i ≤ 1000)

abbrev pub decreases-loop-i : goal.decreases-loop-i
decreases-loop-i l =
    1000 - l.i
