-- `called` meets its contract. Assumes nothing.
use mathlib.Core.Path.{ap}
use Rattle.deadline.specs.declared.Deadline.{Deadline}
use Rattle.deadline.proofs.called.Goals as goal

pub returns : goal.returns
returns c = ap (λ (d : Deadline). d.due) c.after_call.ensures
