-- `on_the_line` meets its contract. Assumes nothing.
use Rattle.ffi.specs.Plain.{on_the_line}
use Rattle.ffi.proofs.on_the_line.Goals as goal

pub returns-in-None : goal.returns-in-None
unfolding on_the_line
returns-in-None c = cc

pub returns-in-Some : goal.returns-in-Some
unfolding on_the_line
returns-in-Some c = cc
