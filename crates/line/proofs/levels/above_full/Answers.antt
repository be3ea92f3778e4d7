-- `levels::above_full` meets its contract. Assumes nothing.
use Rattle.model.specs.Settle.{above_full}
use Rattle.line.proofs.levels.above_full.Goals as goal

pub returns : goal.returns
unfolding above_full
returns c = rw c.rxfifo_full_thrhd.ensures
