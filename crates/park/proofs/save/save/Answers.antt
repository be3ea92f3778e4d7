-- `save::save` meets its contract: refused where the buffer is too short, and else the form is put. Assumes nothing.
use mathlib.Core.Path.{sym}
use native.Mathlib.Omega.{arith}
use Rattle.device.specs.Wholes.{arrays}
use Rattle.device.specs.Holds.{Arrays, abs, Valid}
use Rattle.device.specs.declared.Core.{Core}
use Rattle.park.specs.Puts.{puts-both}
use Rattle.park.specs.Head.{Cursors}
use Rattle.park.specs.Saves.{form-bytes, form-length, saves-short, saves-form}
use Rattle.park.proofs.save.save.Goals as goal

held : {c : Core} {a : Arrays} → Valid c a → Cursors c
held ok =
    let s = ok.shape in
    record { flight = s.flight; tx = s.tx; host = s.host; runs = s.runs; rx = s.rx }

pub form_length-needed-requires : goal.form_length-needed-requires
form_length-needed-requires c = held c.requires

pub save_numbers-at-requires : goal.save_numbers-at-requires
save_numbers-at-requires c =
    let ok = c.requires in
    (held ok, ok.within.sixteen, ok.shape.gone_at_slots, omega (arith, c.if-out-needed.false, c.form_length-needed.ensures))

pub save_queues-end-requires : goal.save_queues-end-requires
save_queues-end-requires c =
    let numbers = c in
    let test = c in
    let ok = c.requires in
    let s = ok.shape in (
      held ok,
      s.flight_slots,
      s.tx_slots,
      s.host_slots,
      s.run_date_slots,
      s.run_count_slots,
      s.rx_slots,
      omega (
        arith,
        c.if-out-needed.false,
        c.form_length-needed.ensures,
        c.save_numbers-at.ensures.place,
        c.save_numbers-at.ensures.long,
      ),
    )

pub returns-then-out-needed : goal.returns-then-out-needed
returns-then-out-needed c =
    let o = c.args in
    let ok = c.requires in
    let a = arrays o.gone_at.now o.flight.now o.tx.now o.host.now o.run_at.now o.run_len.now o.rx.now in
    saves-short o.out.now (abs o.core a)
    (omega (arith, form-length o.core a ok.within.sixteen, c.if-out-needed.true, c.form_length-needed.ensures))

pub returns : goal.returns
returns c =
    let queues = c in
    let numbers = c in
    let test = c in
    let o = c.args in
    let ok = c.requires in
    let a = arrays o.gone_at.now o.flight.now o.tx.now o.host.now o.run_at.now o.run_len.now o.rx.now in
    let long = form-length o.core a ok.within.sixteen in
    saves-form o.out.now (abs o.core a) (omega (arith, long, c.if-out-needed.false, c.form_length-needed.ensures)) (sym long)
    (sym (form-bytes o.core a ok.within.sixteen))
    (puts-both c.save_numbers-at.ensures c.save_queues-end.ensures)
