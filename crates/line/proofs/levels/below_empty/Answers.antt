-- `levels::below_empty` meets its contract. Assumes nothing.
use Rattle.model.specs.Settle.{below_empty, empty_threshold}
use Rattle.line.proofs.levels.below_empty.Goals as goal

pub returns : goal.returns
unfolding below_empty empty_threshold
returns c = rw (c.in_fifo.ensures, c.txfifo_empty_thrhd.ensures)
