-- What each loop of `row::settling_writes` keeps, and what gets less.
use native.Mathlib.Omega.{arith}
use mathlib.Core.Path.{refl, ap}
use Prim.Native.Nat.{◌-◌}
use Rattle.device.specs.Holds.{abs}
use Rattle.device.specs.Wholes.{arrays}
use Rattle.calls.specs.Sums.{few-at}
use Rattle.model.specs.Registers.{send_byte}
use Rattle.access.specs.Sends.{send-period}
use Rattle.access.specs.Concludes.{access-ready}
use Rattle.access.specs.RowParts.{SoFar}
use Rattle.access.specs.RowSettles.{so-far-none, so_far_more}
use Rattle.access.specs.declared.row.RowSoFar.{RowSoFar}
use Rattle.access.proofs.row.settling_writes.Given as goal

abbrev pub invariant-loop-at : goal.invariant-loop-at
invariant-loop-at l =
    SoFar l.cycle l.bytes l.n (abs l.initial.at.core
    (arrays l.initial.gone_at l.initial.flight l.initial.tx l.host l.run_at l.initial.run_len l.initial.rx)) l.at
    (arrays l.gone_at l.flight l.tx l.host l.run_at l.run_len l.rx)

abbrev pub decreases-loop-at : goal.decreases-loop-at
decreases-loop-at l = l.n - l.at.made
