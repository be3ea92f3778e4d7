-- `row::settling_writes` meets its contract: after each turn one write more is made, with its settling. Assumes nothing.
use native.Mathlib.Omega.{arith}
use mathlib.Core.Path.{refl, ap}
use Prim.Native.Nat.{◌-◌}
use Rattle.device.specs.Holds.{abs}
use Rattle.device.specs.Wholes.{arrays}
use Rattle.calls.specs.Sums.{few-at}
use Rattle.model.specs.Registers.{send_byte}
use Rattle.access.specs.Sends.{send-period}
use Rattle.access.specs.Concludes.{access-ready}
use Rattle.access.specs.RowParts.{SoFar}
use Rattle.access.specs.RowSettles.{so-far-none, so_far_more}
use Rattle.access.specs.declared.row.RowSoFar.{RowSoFar}
use Rattle.access.proofs.row.settling_writes.Goals as goal

pub loop-at-init : goal.loop-at-init
loop-at-init c = so-far-none c.requires c.none_yet-at.ensures

pub settle_at-t-requires : goal.settle_at-t-requires
settle_at-t-requires c =
    let at = c in
    (c.loop-at.invariant.ok, c.requires.early)

pub bounds-bytes-made : goal.bounds-bytes-made
bounds-bytes-made c =
    let at = c in
    omega (arith, (c.loop-at.invariant.goes c.loop-at-test.true).1, c.requires.given)

pub send-sent-requires : goal.send-sent-requires
send-sent-requires c =
    let ok = c.settle_at-t.ensures.ok in
    (ok.shape.flight, ok.shape.gone_at_slots, ok.shape.flight_slots, ok.within.period_high)

pub conclude-next-requires : goal.conclude-next-requires
conclude-next-requires c =
    let at = c in
    let s = c.settle_at-t.ensures in
    let o = c.args in
    access-ready s (send_byte o.cycle _) (c.send-sent.ensures _ refl refl s.ok.shape) (send-period _ _ _)

pub due-is_due-requires : goal.due-is_due-requires
due-is_due-requires c =
    let s = c.settle_at-t.ensures in
    let x = c.send-sent.ensures _ refl refl s.ok.shape in
    let y = c.conclude-next.ensures _ refl refl x.shape in
    (y.shape.flight, y.shape.gone_at_slots)

pub one_more-at-requires : goal.one_more-at-requires
one_more-at-requires c =
    let at = c in
    let test = c in
    let start = c in
    let s = c.settle_at-t.ensures in
    let x = c.send-sent.ensures _ refl refl s.ok.shape in
    let y = c.conclude-next.ensures _ refl refl x.shape in
    let k = c.loop-at.invariant in
    let low = few-at c.args.cycle _ k.ok.within c.requires.early s in (
      record {
        more = (k.goes c.loop-at-test.true).1;
        limit = c.requires.limit;
        passes = k.passes;
        overflows = k.overflows;
        dropped = k.wrote.few;
      },
      low.0,
      low.1,
      y.shape.tx,
      y.shape.flight,
    )

pub loop-at-smaller : goal.loop-at-smaller
loop-at-smaller c =
    let due = c in
    let test = c in
    omega (arith, ap (λ (r : RowSoFar). r.made) c.one_more-at.ensures, (c.loop-at.invariant.goes c.loop-at-test.true).1)

pub loop-at-preserved : goal.loop-at-preserved
loop-at-preserved c =
    let at = c in
    let test = c in
    let start = c in
    let o = c.args in
    let s = c.settle_at-t.ensures in
    let x = c.send-sent.ensures _ refl refl s.ok.shape in
    let y = c.conclude-next.ensures _ refl refl x.shape in
    so_far_more o.cycle o.bytes.now o.n c.requires.early c.requires.given _ _ c.loop-at.invariant
    c.loop-at-test.true s x y
    c.fifo_full-dropped.ensures c.due-is_due.ensures
    c.one_more-at.ensures

pub returns : goal.returns
returns c = (rw c.none_yet-at.ensures at c.loop-at.invariant, c.loop-at-test.false)
