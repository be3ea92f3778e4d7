-- `Cursor::nth` meets its contract: a place less than two rounds on has a slot. Assumes nothing.
use Prim.Native.Nat.{◌+◌}
use native.Mathlib.Omega.{arith}
use Rattle.queue.specs.Slots.{wrap-low}
use Rattle.queue.proofs.Cursor.nth.Goals as goal

pub returns : goal.returns
returns c =
    let a = c.args in
    (c.slot.ensures, rw c.slot.ensures (wrap-low (a.self.start + a.n) a.cap (omega arith)))
