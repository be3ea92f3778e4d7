-- `frame::open_idle_line` meets its contract. Assumes nothing.
use Rattle.model.specs.Line.{opened}
use Rattle.line.proofs.frame.open_idle_line.Goals as goal

pub returns : goal.returns
unfolding opened
returns c = rw (c.note_source.ensures, c.with_idle_since-open.ensures)
