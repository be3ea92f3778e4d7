-- `rings::put_runs` meets its contract. The loop's invariant: the first `i` runs are put. Assumes nothing.
use mathlib.Core.Path.{◌≡◌, ap}
use mathlib.Core.List.{flat_map}
use Prim.Native.Nat.{ℕ, ◌*◌}
use Rattle.queue.specs.Listed.{listed}
use Rattle.queue.specs.Cursors.{slot_of, nth_of, elems}
use Rattle.device.specs.Holds.{run_in}
use Rattle.form.specs.Cells.{field_bytes}
use Rattle.form.specs.Form.{run_fields}
use Rattle.park.specs.Puts.{put-nothing, puts-same}
use Rattle.park.specs.Fields.{puts-value}
use Rattle.park.specs.Rings.{puts-run}
use native.Mathlib.Omega.{arith}
use Rattle.park.proofs.rings.put_runs.Goals as goal

pub loop-i-init : goal.loop-i-init
unfolding field_bytes run_fields flat_map listed
loop-i-init c = put-nothing _ _

pub loop-i-preserved : goal.loop-i-preserved
loop-i-preserved c =
    let second = c in
    let first = c in
    let a = c.args in
    let w = c.loop-i in
    let here = c.nth-slot.ensures.0 in
    puts-run (λ k. run_in a.run_at.now a.run_len.now (nth_of 64 k a.runs)) w.i w.invariant
    (puts-value 8 (ap (slot_of a.run_at.now 0) here) c.put-dated.ensures)
    (puts-value 2 (ap (slot_of a.run_len.now 0) here) c.put-place.ensures)

pub returns : goal.returns
unfolding elems
returns c =
    let a = c.args in
    let w = c.loop-i in
    let all : w.i ≡ a.runs.count = omega arith in
    puts-same (ap (λ (k : ℕ). 10 * k) all)
    (ap (λ (k : ℕ). field_bytes (run_fields (listed (λ j. run_in a.run_at.now a.run_len.now (nth_of 64 j a.runs)) k))) all)
    w.invariant
