-- `pass::line_free` meets its contract, by cases on whether a host byte waits. Assumes nothing.
use Rattle.line.specs.Begins.{line_free}
use Rattle.line.proofs.pass.line_free.Goals as goal

pub returns-in-None : goal.returns-in-None
unfolding line_free
returns-in-None c = rw c.in-None.is c.keep.ensures

pub returns-in-Some : goal.returns-in-Some
unfolding line_free
returns-in-Some c = rw (c.in-Some.is, ← c.later.ensures) c.start.ensures
