-- `levels::level` meets its contract. Assumes nothing.
use Rattle.line.proofs.levels.level.Goals as goal

pub returns : goal.returns
returns c = rw c.int_status.ensures
