-- `copy::copy_out` meets its contract: two copies put the elements at the front (`copied-out`). Assumes nothing.
use mathlib.Core.Path.{refl}
use Rattle.queue.specs.CopyOut.{copied-out}
use Rattle.queue.proofs.copy.copy_out.Goals as goal

pub returns : goal.returns
returns c =
    let then = c.copy_run-2.ensures in
    let copy = c.copy_run.ensures in
    let first = c.min-first.ensures in
    let begin = c in
    let a = begin.args in
    let p = begin.requires in
    record { value = refl; out_after = copied-out 0 a.cap a.slots.now a.cursor p.1 p.0 a.out.now p.2 first copy then }
