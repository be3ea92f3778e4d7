-- `reset::clear` meets its contract. Assumes nothing.
use Rattle.calls.proofs.reset.clear.Goals as goal

pub returns : goal.returns
returns c = rw (c.clear_line-line.ensures, c.new-core-2.ensures, c.new-core.ensures)
