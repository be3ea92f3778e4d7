-- `copy::append` meets its contract: two copies, which are stores one after the other (`appended`). Assumes nothing.
use mathlib.Core.Path.{refl}
use Prim.Native.Nat.{◌+◌}
use native.Mathlib.Omega.{arith}
use Rattle.queue.specs.Append.{appended}
use Rattle.queue.proofs.copy.append.Goals as goal

pub returns : goal.returns
returns c =
    let then = c.copy_run-2.ensures in
    let copy = c.copy_run.ensures in
    let first = c.min-first.ensures in
    let slot = c.back-at.ensures.0 in
    let begin = c in
    let a = begin.args in
    let p = begin.requires in record {
      value = refl;
      slots_after = appended a.cap a.slots.now (a.cursor.start + a.cursor.count) a.bytes.now p.1 (omega arith) (omega arith)
          (omega arith) slot first copy then;
    }
