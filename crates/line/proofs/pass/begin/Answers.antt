-- `pass::begin` meets its contract, by cases on what is on the line. Assumes nothing.
use Rattle.line.specs.Begins.{begun}
use Rattle.line.proofs.pass.begin.Goals as goal

pub returns-in-None : goal.returns-in-None
unfolding begun
returns-in-None c = rw c.in-None.is c.line_free.ensures

pub returns-in-Some : goal.returns-in-Some
unfolding begun
returns-in-Some c = rw c.in-Some.is c.keep.ensures
