-- What the loop of `rings::put_runs` keeps.
use Prim.Native.Nat.{◌*◌}
use Rattle.queue.specs.Listed.{listed}
use Rattle.queue.specs.Cursors.{nth_of}
use Rattle.device.specs.Holds.{run_in}
use Rattle.form.specs.Cells.{field_bytes}
use Rattle.form.specs.Form.{run_fields}
use Rattle.park.specs.Puts.{Puts}
use Rattle.park.proofs.rings.put_runs.Given as goal

abbrev pub invariant-loop-i : goal.invariant-loop-i
invariant-loop-i l =
    Puts (10 * l.i) (field_bytes (run_fields (listed (λ k. run_in l.run_at l.run_len (nth_of 64 k l.runs)) l.i)))
    l.initial.out l.at l.out l.place
