-- `frame::start` meets its contract. Assumes nothing.
use Rattle.model.specs.Line.{start}
use Rattle.line.proofs.frame.start.Goals as goal

pub returns : goal.returns
unfolding start
returns c = rw (c.after.ensures, c.hear-begun.ensures)
