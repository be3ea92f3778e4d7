-- What each loop of `row::fill` keeps, and what gets less.
use native.Mathlib.Omega.{arith}
use mathlib.Core.Path.{◌≡◌}
use Prim.Native.Nat.{◌+◌, ◌-◌, ◌≤◌}
use Rattle.access.specs.RowParts.{Room}
use Rattle.access.specs.RowFills.{FilledSo, flying_by, room_at, longer-held, fills-none, joins-next, fills-all}
use Rattle.access.proofs.row.fill.Given as goal

abbrev pub invariant-loop-i : goal.invariant-loop-i
invariant-loop-i l =
    (l.i ≤ l.n) × Room (flying_by l.flying l.wake l.core) l.gone_at l.flight l.bytes (l.from + l.i) (l.n - l.i)
    × FilledSo l.cycle l.bytes l.from l.n l.core l.initial.gone_at l.initial.flight l.i (flying_by l.flying l.wake l.core) l.gone_at
    l.flight

abbrev pub decreases-loop-i : goal.decreases-loop-i
decreases-loop-i l = l.n - l.i
