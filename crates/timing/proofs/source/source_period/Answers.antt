-- `source::source_period` meets its contract, by the test on SCLK_SEL. Assumes nothing.
use mathlib.Core.Path.{sym, ◌∙◌}
use borrow.Author.Tests.{eq-eqb, ne_eqb}
use Rattle.model.proofs.Laws.Choose.{choose-true, choose-false}
use Rattle.model.specs.Timing.{source_period}
use Rattle.timing.proofs.source.source_period.Goals as goal

pub returns-then-sclk_sel-eq1 : goal.returns-then-sclk_sel-eq1
unfolding source_period
returns-then-sclk_sel-eq1 c = sym (choose-true _ _ (eq-eqb _ 1 (sym c.sclk_sel.ensures ∙ c.if-sclk_sel-eq1.true)))

pub returns-else-sclk_sel-eq1 : goal.returns-else-sclk_sel-eq1
unfolding source_period
returns-else-sclk_sel-eq1 c = sym (choose-false _ _ (ne_eqb _ 1 (λ e. c.if-sclk_sel-eq1.false (c.sclk_sel.ensures ∙ e))))
