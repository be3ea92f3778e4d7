-- `pass::timeout_due` meets its contract. Assumes nothing.
use Rattle.line.proofs.pass.timeout_due.Goals as goal

pub returns : goal.returns
returns c = rw (c.due_by.ensures, c.timeout_at.ensures)
