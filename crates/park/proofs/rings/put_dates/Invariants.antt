-- What the loop of `rings::put_dates` keeps.
use mathlib.Core.List.{map}
use Prim.Native.Nat.{◌*◌}
use Rattle.queue.specs.Listed.{listed}
use Rattle.queue.specs.Cursors.{slot_of, nth_of}
use Rattle.form.specs.Cells.{field_bytes}
use Rattle.form.specs.Form.{long}
use Rattle.park.specs.Puts.{Puts}
use Rattle.park.proofs.rings.put_dates.Given as goal

abbrev pub invariant-loop-i : goal.invariant-loop-i
invariant-loop-i l =
    Puts (8 * l.i) (field_bytes (map long (listed (λ k. slot_of l.gone_at 0 (nth_of 129 k l.flight)) l.i)))
    l.initial.out l.at l.out l.place
