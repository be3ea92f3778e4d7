-- `idle::timeout_at` meets its contract. Assumes nothing.
use Rattle.model.specs.Line.{timeout_at}
use Rattle.line.proofs.idle.timeout_at.Goals as goal

pub returns : goal.returns
unfolding timeout_at
returns c = c.after_date.ensures
