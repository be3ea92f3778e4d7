-- `call::bit_number` meets its contract. Assumes nothing.
use borrow.Author.Tests.{lt-ltb, le-ltb}
use Rattle.blanking.proofs.call.bit_number.Goals as goal

pub returns-then-last-gt0 : goal.returns-then-last-gt0
returns-then-last-gt0 c = rw (lt-ltb _ _ c.if-last-gt0.true)

pub returns-else-last-gt0 : goal.returns-else-last-gt0
returns-else-last-gt0 c = rw (le-ltb _ _ c.if-last-gt0.false)
