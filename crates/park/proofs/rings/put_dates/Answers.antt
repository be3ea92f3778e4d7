-- `rings::put_dates` meets its contract. The loop's invariant: the first `i` dates are put. Assumes nothing.
use mathlib.Core.Path.{◌≡◌, ap}
use mathlib.Core.List.{map, flat_map}
use Prim.Native.Nat.{ℕ, ◌*◌}
use Rattle.queue.specs.Listed.{listed}
use Rattle.queue.specs.Cursors.{slot_of, nth_of, elems}
use Rattle.form.specs.Cells.{field_bytes}
use Rattle.form.specs.Form.{long}
use Rattle.park.specs.Puts.{put-nothing, puts-same}
use Rattle.park.specs.Fields.{puts-value}
use Rattle.park.specs.Rings.{puts-date}
use native.Mathlib.Omega.{arith}
use Rattle.park.proofs.rings.put_dates.Goals as goal

pub loop-i-init : goal.loop-i-init
unfolding field_bytes flat_map listed
loop-i-init c = put-nothing _ _

pub loop-i-preserved : goal.loop-i-preserved
loop-i-preserved c =
    let a = c.args in
    let w = c.loop-i in
    let here = c.nth-slot.ensures.0 in
    puts-date (λ k. slot_of a.gone_at.now 0 (nth_of 129 k a.flight)) w.i w.invariant
    (puts-value 8 (ap (slot_of a.gone_at.now 0) here) c.put-place.ensures)

pub returns : goal.returns
unfolding elems
returns c =
    let a = c.args in
    let w = c.loop-i in
    let all : w.i ≡ a.flight.count = omega arith in
    puts-same (ap (λ (k : ℕ). 8 * k) all)
    (ap (λ (k : ℕ). field_bytes (map long (listed (λ j. slot_of a.gone_at.now 0 (nth_of 129 j a.flight)) k))) all) w.invariant
