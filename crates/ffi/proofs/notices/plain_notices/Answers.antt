-- `notices::plain_notices` meets its contract. Assumes nothing.
use borrow.Author.Tests.{eq-eqb, ne_eqb}
use Rattle.model.specs.Numbers.{choose}
use Rattle.ffi.specs.Notes.{plain_notices}
use Rattle.ffi.proofs.notices.plain_notices.Goals as goal

pub returns-then-noted-eq0 : goal.returns-then-noted-eq0
unfolding plain_notices choose
returns-then-noted-eq0 c = rw (eq-eqb _ 0 c.if-noted-eq0.true)

pub returns-else-noted-eq0 : goal.returns-else-noted-eq0
unfolding plain_notices choose
returns-else-noted-eq0 c = rw (ne_eqb _ 0 c.if-noted-eq0.false, c.all.ensures)
