-- `row::first_times` meets its contract, by cases on what is told of. Assumes nothing.
use mathlib.Core.Path.{sym, ◌∙◌}
use Rattle.model.proofs.Ends.Passes.{apart}
use Rattle.access.specs.Row.{times_none, times-some}
use Rattle.access.proofs.row.first_times.Goals as goal

pub returns-in-None : goal.returns-in-None
returns-in-None c = (times_none _ _ _ (sym c.told-told.ensures ∙ c.in-None.is)).0

pub returns-in-Sel0 : goal.returns-in-Sel0
returns-in-Sel0 c = (times-some _ _ _ _ (sym c.told-told.ensures ∙ c.in-Sel0.is) (λ e. apart (cc))).0

pub returns-in-Sel2 : goal.returns-in-Sel2
returns-in-Sel2 c = (times-some _ _ _ _ (sym c.told-told.ensures ∙ c.in-Sel2.is) (λ e. apart (cc))).0
