-- `row::carry_out` meets its contract: the writes that settle, those that do not, and those that are dropped. Assumes nothing.
use native.Mathlib.Omega.{arith}
use mathlib.Core.Path.{refl}
use Rattle.access.specs.RowWhole.{row-begins, sent-fits, fill-room, fill-before, row-totals, row-works}
use Rattle.access.proofs.row.carry_out.Goals as goal

pub settling_writes-first-requires : goal.settling_writes-first-requires
settling_writes-first-requires c =
    let at = c in
    row-begins c.requires c.smaller-n.ensures

pub overflow_sub-n : goal.overflow_sub-n
overflow_sub-n c = omega (arith, c.settling_writes-first.ensures.0.fits)

pub room-sent-requires : goal.room-sent-requires
room-sent-requires c = let k = c.settling_writes-first.ensures.0 in (k.ok.shape.flight, sent-fits _ _ k)

pub fill-filled-requires : goal.fill-filled-requires
fill-filled-requires c =
    let at = c in
    let is = c.smaller-n.ensures in
    fill-room _ _ c.settling_writes-first.ensures.0 (omega (arith, is)) _ c.room-sent.ensures

pub over-lost-requires : goal.over-lost-requires
over-lost-requires c =
    let at = c in
    let k = c.settling_writes-first.ensures in
    let is = c.smaller-n.ensures in
    let early = c.requires.early in
    let sent = c.room-sent.ensures in
    let f = c.fill-filled.ensures _ refl refl (fill-before _ _ k.0 (omega (arith, is)) _ sent k.1 early) in
    (f.shape.tx, f.shape.flight)

pub answer-requires : goal.answer-requires
answer-requires c =
    let at = c in
    let k = c.settling_writes-first.ensures in
    let is = c.smaller-n.ensures in
    let early = c.requires.early in
    let sent = c.room-sent.ensures in
    let f = c.fill-filled.ensures _ refl refl (fill-before _ _ k.0 (omega (arith, is)) _ sent k.1 early) in
    row-totals early is _ _ k.0 k.1 _ sent _ _ f _ c.over-lost.ensures

pub returns : goal.returns
returns c =
    let at = c in
    let k = c.settling_writes-first.ensures in
    let is = c.smaller-n.ensures in
    let early = c.requires.early in
    let sent = c.room-sent.ensures in
    let f = c.fill-filled.ensures _ refl refl (fill-before _ _ k.0 (omega (arith, is)) _ sent k.1 early) in
    row-works early is _ _ k.0 k.1 _ sent _ _ f _ c.over-lost.ensures c.answer.ensures
