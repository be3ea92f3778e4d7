-- `receiving_of` meets its contract. Assumes nothing.
use Rattle.model.specs.Numbers.{choose}
use Rattle.ffi.specs.Plain.{receiving_of}
use Rattle.ffi.proofs.receiving_of.Goals as goal

pub returns-then-on_the_line : goal.returns-then-on_the_line
unfolding receiving_of choose
returns-then-on_the_line c = rw (c.if-on_the_line.true, c.source_of-source.ensures)

pub returns-else-on_the_line : goal.returns-else-on_the_line
unfolding receiving_of choose
returns-else-on_the_line c = rw c.if-on_the_line.false
