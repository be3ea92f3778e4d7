-- `Deadline::earliest` meets its contract, by cases on the date. Assumes nothing.
use Rattle.std.specs.Prelude.{Some}
use mathlib.Core.Path.{ap, sym, ◌∙◌}
use Rattle.model.specs.Numbers.{earliest}
use Rattle.model.specs.Names.{Date}
use Rattle.deadline.specs.declared.Deadline.{Deadline}
use Rattle.deadline.proofs.Deadline.earliest.Goals as goal

abbrev dated : Date → Deadline
dated d = record { due = d }

pub returns-in-None : goal.returns-in-None
unfolding earliest
returns-in-None c = ap (λ d. dated (earliest d (Some c.args.at))) (sym c.in-None.is)

pub returns-in-Some : goal.returns-in-Some
unfolding earliest
returns-in-Some c =
    ap (λ n. dated (Some n)) c.earlier.ensures
    ∙ ap (λ d. dated (earliest d (Some c.args.at))) (sym c.in-Some.is)
