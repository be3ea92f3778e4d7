-- `row::fill` meets its contract: after each byte so many writes more are made. Assumes nothing.
use native.Mathlib.Omega.{arith}
use mathlib.Core.Path.{◌≡◌}
use Prim.Native.Nat.{◌+◌, ◌-◌, ◌≤◌}
use Rattle.access.specs.RowParts.{Room}
use Rattle.access.specs.RowFills.{FilledSo, flying_by, room_at, longer-held, fills-none, joins-next, fills-all}
use Rattle.access.proofs.row.fill.Goals as goal

pub byte_time-takes-requires : goal.byte_time-takes-requires
byte_time-takes-requires c = c.requires.period

pub loop-i-init : goal.loop-i-init
loop-i-init c =
    let start = c in
    let o = c.args in (
      omega arith,
      room_at (let e : o.from ≡ o.from + 0 = omega arith in e) (let e : o.n ≡ o.n - 0 = omega arith in e) c.requires,
      fills-none o.cycle o.bytes.now o.from o.n o.core o.gone_at.now o.flight.now,
    )

pub back-at-requires : goal.back-at-requires
back-at-requires c = c.loop-i.invariant.1.shape.flight

pub gone_after-requires : goal.gone_after-requires
gone_after-requires c =
    let r = c.loop-i.invariant.1 in
    (r.shape.flight, r.shape.gone_at_slots)

pub bounds-gone_at-at : goal.bounds-gone_at-at
bounds-gone_at-at c =
    omega (arith, c.back-at.ensures.1, c.loop-i.invariant.1.shape.gone_at_slots)

pub bounds-flight-at : goal.bounds-flight-at
bounds-flight-at c =
    omega (
      arith,
      c.back-at.ensures.1,
      c.loop-i.invariant.1.shape.flight_slots,
    )

pub pushed-longer-requires : goal.pushed-longer-requires
pushed-longer-requires c = omega (arith, c.loop-i.invariant.1.room)

pub wake_below-wake-requires : goal.wake_below-wake-requires
wake_below-wake-requires c =
    let start = c in
    longer-held c.args.core _ _ c.loop-i.invariant.1
    (omega (arith, c.loop-i-test.true)) c.pushed-longer.ensures _ _

pub overflow_add-i : goal.overflow_add-i
overflow_add-i c =
    let start = c in
    omega (arith, c.requires.room, c.loop-i-test.true)

pub loop-i-preserved : goal.loop-i-preserved
loop-i-preserved c =
    let start = c in
    let o = c.args in
    let k = c.loop-i.invariant in
    joins-next o.cycle o.bytes.now o.from o.n _ o.core o.gone_at.now o.flight.now c.requires
    c.loop-i-test.true _ _ _ _ k.1 k.2
    c.subcycles-date.ensures
    c.byte_time-takes.ensures
    c.back-at.ensures.0 c.gone_after.ensures
    c.pushed-longer.ensures c.wake_below-wake.ensures

pub returns : goal.returns
returns c =
    rw c.with_wake_of-filled.ensures
    (fills-all _ _ _ _ _ _ _ _ _ _ _ c.loop-i.invariant.0 c.loop-i-test.false c.loop-i.invariant.2)
