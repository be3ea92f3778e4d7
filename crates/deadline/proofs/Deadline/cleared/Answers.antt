-- `Deadline::cleared` meets its contract, by cases on the date. Assumes nothing.
use mathlib.Core.Path.{ap, sym, ◌∙◌}
use Rattle.model.specs.Arm.{called}
use Rattle.model.specs.Names.{Date}
use Rattle.model.proofs.ShutsOut.Wakes.{called-due, called-before}
use Rattle.deadline.specs.Laws.{called-none}
use Rattle.deadline.specs.declared.Deadline.{Deadline}
use Rattle.deadline.proofs.Deadline.cleared.Goals as goal

abbrev dated : Date → Deadline
dated d = record { due = d }

pub returns-in-None : goal.returns-in-None
returns-in-None c = ap dated (sym (ap (called c.args.at) c.in-None.is ∙ called-none _))

pub returns-then-cycle-at : goal.returns-then-cycle-at
returns-then-cycle-at c =
    ap dated (sym (ap (called c.args.at) c.in-Some.is
    ∙ called-due _ _ c.if-cycle-at.true))

pub returns-else-cycle-at : goal.returns-else-cycle-at
returns-else-cycle-at c =
    let d = c.in-Some.is in ap dated
    (d ∙ sym (ap (called c.args.at) d ∙ called-before _ _ c.if-cycle-at.false))
