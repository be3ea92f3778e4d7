-- `write::carry_out` meets its contract: settled, then the write, then levels, interrupt and wake. Assumes nothing.
use mathlib.Core.Path.{refl}
use Rattle.registers.specs.Places.{register_at}
use Rattle.access.specs.ByPlace.{access_at, access-period, sent-access, placed-access}
use Rattle.access.specs.Concludes.{access-ready, concluded-works}
use Rattle.access.proofs.write.carry_out.Goals as goal

pub settle_at-t-requires : goal.settle_at-t-requires
settle_at-t-requires c = c.requires

pub send-sent-requires : goal.send-sent-requires
send-sent-requires c =
    let ok = c.settle_at-t.ensures.ok in
    (ok.shape.flight, ok.shape.gone_at_slots, ok.shape.flight_slots, ok.within.period_high)

pub conclude-requires : goal.conclude-requires
conclude-requires c =
    let o = c.args in
    let s = c.settle_at-t.ensures in
    access-ready s (access_at o.fifo o.cycle o.byte (register_at o.place) o.value)
    (sent-access o.cycle o.byte (register_at o.place) o.value _ c.if-fifo.true
    (c.send-sent.ensures _ refl refl s.ok.shape))
    (access-period o.cycle o.byte (register_at o.place) o.value o.fifo _)

pub conclude-requires-else-fifo : goal.conclude-requires-else-fifo
conclude-requires-else-fifo c =
    let o = c.args in
    let s = c.settle_at-t.ensures in
    access-ready s (access_at o.fifo o.cycle o.byte (register_at o.place) o.value)
    (placed-access o.cycle o.byte (register_at o.place) o.value _ c.if-fifo.false
    (c.write_place-put.ensures _ s.ok.shape))
    (access-period o.cycle o.byte (register_at o.place) o.value o.fifo _)

pub returns-then-fifo : goal.returns-then-fifo
returns-then-fifo c =
    let o = c.args in
    let s = c.settle_at-t.ensures in
    let x = c.send-sent.ensures _ refl refl s.ok.shape in
    concluded-works s (access_at o.fifo o.cycle o.byte (register_at o.place) o.value)
    (sent-access o.cycle o.byte (register_at o.place) o.value _ c.if-fifo.true x)
    (c.conclude.ensures _ refl refl x.shape)

pub returns-else-fifo : goal.returns-else-fifo
returns-else-fifo c =
    let o = c.args in
    let s = c.settle_at-t.ensures in
    let x = c.write_place-put.ensures _ s.ok.shape in
    concluded-works s (access_at o.fifo o.cycle o.byte (register_at o.place) o.value)
    (placed-access o.cycle o.byte (register_at o.place) o.value _ c.if-fifo.false x)
    (c.conclude-else-fifo.ensures _ refl refl x.shape)
