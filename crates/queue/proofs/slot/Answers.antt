-- `slot` meets its contract: the two ways of `wrap`. Assumes nothing.
use mathlib.Core.Path.{sym}
use Prim.Native.Nat.{◌+◌}
use native.Mathlib.Omega.{arith}
use Rattle.queue.specs.Slots.{wrap-in, wrap-over}
use Rattle.queue.proofs.slot.Goals as goal

pub returns-then-n-ahead : goal.returns-then-n-ahead
returns-then-n-ahead c =
    let a = c.args in
    sym (wrap-in (a.start + a.n) a.cap (omega arith))

pub returns-else-n-ahead : goal.returns-else-n-ahead
returns-else-n-ahead c =
    let a = c.args in
    omega (arith, wrap-over (a.start + a.n) a.cap (omega arith))
