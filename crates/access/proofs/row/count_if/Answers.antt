-- `row::count_if` meets its contract, by the test. Assumes nothing.
use mathlib.Core.Path.{sym}
use Rattle.model.proofs.Laws.Choose.{choose-true, choose-false}
use Rattle.access.proofs.row.count_if.Goals as goal

pub returns-then-yes : goal.returns-then-yes
returns-then-yes c = sym (choose-true _ _ c.if-yes.true)

pub returns-else-yes : goal.returns-else-yes
returns-else-yes c = sym (choose-false _ _ c.if-yes.false)
