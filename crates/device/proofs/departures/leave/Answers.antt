-- `departures::leave` meets its contract. The loop's invariant: i bytes have been moved. Assumes nothing.
use native.Mathlib.Omega.{arith}
use mathlib.Core.Path.{◌≡◌}
use Prim.Native.Nat.{◌<◌}
use Rattle.device.specs.Leaves.{leaves_none, leaves-more}
use Rattle.device.proofs.departures.leave.Goals as goal

pub loop-i-init : goal.loop-i-init
loop-i-init c = (omega arith, leaves_none _ _ _ _ c.requires.0 c.requires.1 c.requires.3)

pub bounds-bytes-first : goal.bounds-bytes-first
bounds-bytes-first c = omega (arith, c.loop-i.invariant.1.flight_held.low, c.requires.2)

pub back-next-requires : goal.back-next-requires
back-next-requires c = c.loop-i.invariant.1.tx_held

pub bounds-left-next : goal.bounds-left-next
bounds-left-next c = omega (arith, c.back-next.ensures.1, c.loop-i.invariant.1.slots)

pub pushed-to-requires : goal.pushed-to-requires
pushed-to-requires c = omega (arith, c.loop-i.invariant.1.tx_held.few)

pub popped-from-requires : goal.popped-from-requires
popped-from-requires c = c.loop-i.invariant.1.flight_held.low

pub overflow_add-i : goal.overflow_add-i
overflow_add-i c =
    omega (arith, c.requires.0.few, c.requires.4)

pub loop-i-preserved : goal.loop-i-preserved
loop-i-preserved c = let p = c.requires in
    let l = c.loop-i in
    let k = l.invariant.1 in
    let more = c.loop-i-test.true in
    let pos : 0 < l.from.count = omega (arith, k.fewer, p.4) in
    let room : l.to.count < 1152 = omega (arith, k.more, p.5) in
    (omega arith, rw (c.popped-from.ensures, c.pushed-to.ensures, c.back-next.ensures.0) (leaves-more k pos room))

pub returns : goal.returns
returns c = let l = c.loop-i in
    let e : l.i ≡ c.args.n = omega (arith, l.invariant.0, c.loop-i-test.false) in
    rw e at l.invariant.1
