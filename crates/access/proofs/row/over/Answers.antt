-- `row::over` meets its contract, by the tests. Assumes nothing.
use mathlib.Core.Path.{sym, ◌∙◌}
use Rattle.model.proofs.Laws.Choose.{choose-true, choose-false}
use Rattle.access.specs.RowParts.{over_of}
use Rattle.access.proofs.row.over.Goals as goal

pub returns-then-full : goal.returns-then-full
unfolding over_of
returns-then-full c =
    sym (choose-true _ _ (sym c.fifo_full.ensures ∙ c.if-fifo_full.true)
    ∙ choose-true _ _ (sym c.full.ensures ∙ c.if-full.true))

pub returns-else-full : goal.returns-else-full
unfolding over_of
returns-else-full c =
    sym (choose-true _ _ (sym c.fifo_full.ensures ∙ c.if-fifo_full.true)
    ∙ choose-false _ _ (sym c.full.ensures ∙ c.if-full.false))

pub returns-else-fifo_full : goal.returns-else-fifo_full
unfolding over_of
returns-else-fifo_full c = sym (choose-false _ _ (sym c.fifo_full.ensures ∙ c.if-fifo_full.false))
