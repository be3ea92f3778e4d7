-- `marks::frame_source` meets its contract, by its cases. Assumes nothing.
use Rattle.device.specs.Holds.{on_the_line}
use borrow.Author.Rules.{rules}
use Rattle.park.proofs.marks.frame_source.Goals as goal

pub returns-in-None : goal.returns-in-None
unfolding on_the_line
returns-in-None c = search rules

pub returns-in-Some : goal.returns-in-Some
unfolding on_the_line
returns-in-Some c = search rules
