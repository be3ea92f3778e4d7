-- `core_of` meets its contract. Assumes nothing.
use Rattle.ffi.specs.Plain.{core_of}
use Rattle.ffi.proofs.core_of.Goals as goal

pub returns : goal.returns
unfolding core_of
returns c = rw (c.receiving_of.ensures, c.control_of.ensures)
