-- What each loop of `run` keeps, and what gets less.
use Prim.Native.Nat.{◌-◌, ◌≤◌}
use Rattle.device.specs.Holds.{Valid}
use Rattle.device.specs.Wholes.{arrays}
use native.Mathlib.Omega.{arith}
use Rattle.bench_mixed.proofs.run.Given as goal

abbrev pub invariant-loop-n : goal.invariant-loop-n
invariant-loop-n l =
    Valid l.tally.core (arrays l.gone_at l.flight l.tx l.host l.run_at l.run_len l.rx) × (l.n ≤ 13402)

abbrev pub decreases-loop-n : goal.decreases-loop-n
decreases-loop-n l = 13402 - l.n
