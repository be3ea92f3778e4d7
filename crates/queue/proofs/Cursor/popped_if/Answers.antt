-- `Cursor::popped_if` meets its contract, by the test and by that of `popped`. Assumes nothing.
use Rattle.queue.specs.Cursors.{popped_if}
use Rattle.queue.proofs.Cursor.popped_if.Goals as goal

pub returns-then-yes : goal.returns-then-yes
unfolding popped_if
returns-then-yes c = rw c.if-yes.true c.popped-popped.ensures

pub returns-else-yes : goal.returns-else-yes
unfolding popped_if
returns-else-yes c = rw c.if-yes.false
