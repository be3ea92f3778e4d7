-- `words::in_fifo` meets its contract. Assumes nothing.
use Rattle.model.specs.Settle.{in_fifo}
use Rattle.registers.proofs.words.in_fifo.Goals as goal

pub returns : goal.returns
unfolding in_fifo
returns c = c.saturating_sub.ensures
