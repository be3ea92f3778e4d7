-- `settle::settle` meets its contract: each call gives a part, and `settles` puts them together. Assumes nothing.
use mathlib.Core.Path.{refl}
use Rattle.device.specs.Wholes.{arrays}
use Rattle.device.specs.Settles.{room, fit, settles}
use Rattle.device.proofs.settle.settle.Goals as goal

pub gone-n-requires : goal.gone-n-requires
gone-n-requires c = (c.requires.shape.flight, c.requires.shape.gone_at_slots)

pub leave-sent-requires : goal.leave-sent-requires
leave-sent-requires c = let o = c.args in
    let p = c.requires in
    let few = c.gone-n.ensures.1 in
    let a = arrays o.gone_at.now o.flight.now o.tx.now o.host.now o.run_at.now o.run_len.now o.rx.now in
    (p.shape.flight, p.shape.tx, p.shape.flight_slots, p.shape.tx_slots, few, room o.core a _ p few)

pub settle_line-ended-requires : goal.settle_line-ended-requires
settle_line-ended-requires c = let start = c in
    let o = c.args in
    let a = arrays o.gone_at.now o.flight.now o.tx.now o.host.now o.run_at.now o.run_len.now o.rx.now in
    (rw c.reception-from.ensures (fit o.core a _ c.requires), c.requires.within.period_high)

pub returns : goal.returns
returns c =
    let start = c in
    let o = c.args in
    let a = arrays o.gone_at.now o.flight.now o.tx.now o.host.now o.run_at.now o.run_len.now o.rx.now in
    let runs =
    rw c.reception-from.ensures at
    c.settle_line-ended.ensures in
    rw c.together-settled.ensures
    (settles o.cycle o.core a c.requires
    c.settling_date-date.ensures
    c.gone-n.ensures.0
    c.leave-sent.ensures
    refl
    c.tx_done-line.ensures
    runs
    c.assert_levels-leveled.ensures
    c.level-level.ensures)
