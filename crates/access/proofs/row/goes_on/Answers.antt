-- `row::goes_on` meets its contract, test by test. Assumes nothing.
use Rattle.access.specs.RowParts.{goes_on}
use Rattle.access.proofs.row.goes_on.Goals as goal

pub returns-then-dropped : goal.returns-then-dropped
unfolding goes_on
returns-then-dropped c = rw c.if-dropped.true

pub returns-then-more : goal.returns-then-more
unfolding goes_on
returns-then-more c = rw (c.if-dropped.false, c.if-due.true, c.if-more.true)

pub returns-else-more : goal.returns-else-more
unfolding goes_on
returns-else-more c = rw (c.if-dropped.false, c.if-due.true, c.if-more.false)

pub returns-else-due : goal.returns-else-due
unfolding goes_on
returns-else-due c = rw (c.if-dropped.false, c.if-due.false)
