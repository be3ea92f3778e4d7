-- `Cursor::pushed_if` meets its contract, by the test and by that of `pushed`. Assumes nothing.
use Rattle.queue.specs.Cursors.{pushed_if}
use Rattle.queue.proofs.Cursor.pushed_if.Goals as goal

pub returns-then-yes : goal.returns-then-yes
unfolding pushed_if
returns-then-yes c = rw c.if-yes.true c.pushed-pushed.ensures

pub returns-else-yes : goal.returns-else-yes
unfolding pushed_if
returns-else-yes c = rw c.if-yes.false
