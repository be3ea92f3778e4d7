-- `marks::frame_mark` meets its contract, by its cases. Assumes nothing.
use Rattle.model.specs.Numbers.{choose}
use Rattle.device.specs.Holds.{on_the_line}
use borrow.Author.Rules.{rules}
use Rattle.park.proofs.marks.frame_mark.Goals as goal

pub returns-in-None : goal.returns-in-None
unfolding on_the_line choose
returns-in-None c = search rules

pub returns-then-frame : goal.returns-then-frame
unfolding on_the_line choose
returns-then-frame c = search rules

pub returns-else-frame : goal.returns-else-frame
unfolding on_the_line choose
returns-else-frame c = search rules
