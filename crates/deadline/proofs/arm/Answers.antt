-- `arm` meets its contract, by cases on the instant. Assumes nothing.
use Rattle.std.specs.Prelude.{Some}
use mathlib.Core.Path.{ap, sym, ◌∙◌}
use Rattle.model.specs.Arm.{armed}
use Rattle.model.specs.Numbers.{in_cycles}
use Rattle.deadline.specs.Laws.{armed-none}
use Rattle.deadline.specs.declared.Deadline.{Deadline}
use Rattle.deadline.proofs.arm.Goals as goal

pub returns-in-None : goal.returns-in-None
unfolding in_cycles
returns-in-None c = sym (ap (λ d. armed (in_cycles d) c.args.due) c.in-None.is ∙ armed-none _)

pub returns-in-Some : goal.returns-in-Some
unfolding in_cycles
returns-in-Some c =
    ap (λ (d : Deadline). d.due) c.after_arm.ensures
    ∙ ap (λ n. armed (Some n) c.args.due) c.cycles.ensures
    ∙ sym (ap (λ d. armed (in_cycles d) c.args.due)
    c.in-Some.is)
