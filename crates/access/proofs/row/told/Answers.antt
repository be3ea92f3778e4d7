-- `row::told` meets its contract, by the test. Assumes nothing.
use mathlib.Core.Path.{sym}
use borrow.Author.Tests.{lt-ltb, le-ltb}
use Rattle.model.proofs.Laws.Choose.{choose-true, choose-false}
use Rattle.access.proofs.row.told.Goals as goal

pub returns-then-sent-gt0 : goal.returns-then-sent-gt0
returns-then-sent-gt0 c = sym (choose-true _ _ (lt-ltb 0 _ c.if-sent-gt0.true))

pub returns-else-sent-gt0 : goal.returns-else-sent-gt0
returns-else-sent-gt0 c = sym (choose-false _ _ (le-ltb 0 _ c.if-sent-gt0.false))
