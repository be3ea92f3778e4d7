-- `line_of` meets its contract. Assumes nothing.
use Rattle.ffi.proofs.line_of.Goals as goal

pub returns : goal.returns
returns c = rw (c.date_of.ensures, c.source_of.ensures)
