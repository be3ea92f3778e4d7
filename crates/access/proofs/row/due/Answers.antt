-- `row::due` meets its contract, by cases on the last date. Assumes nothing.
use mathlib.Core.Path.{sym, ap, ap₂, ◌∙◌}
use Rattle.model.specs.Numbers.{due_by}
use Rattle.model.specs.Settle.{settling_date}
use Rattle.access.proofs.row.due.Goals as goal

pub returns-in-None : goal.returns-in-None
unfolding due_by settling_date
returns-in-None c = λ bytes. sym (ap (due_by _) (sym (c.last_gone-last.ensures bytes) ∙ c.in-None.is))

pub returns-in-Some : goal.returns-in-Some
unfolding due_by settling_date
returns-in-Some c = λ bytes.
    ap₂ due_by c.settling_date-date.ensures
    (sym c.in-Some.is ∙ c.last_gone-last.ensures bytes)
