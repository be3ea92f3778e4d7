-- `control_of` meets its contract. Assumes nothing.
use Rattle.ffi.proofs.control_of.Goals as goal

pub returns : goal.returns
returns c = rw (c.date_of-2.ensures, c.date_of.ensures, c.line_of.ensures)
