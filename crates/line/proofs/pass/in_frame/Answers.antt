-- `pass::in_frame` meets its contract, by the tests on the way. Assumes nothing.
use borrow.Author.Tests.{lt-ltb, le-ltb}
use Rattle.model.specs.Numbers.{choose}
use Rattle.line.specs.Moves.{in_frame}
use Rattle.line.proofs.pass.in_frame.Goals as goal

pub returns-then-timeout_due : goal.returns-then-timeout_due
unfolding in_frame choose
returns-then-timeout_due c = rw (← c.timeout_due.ensures, c.if-timeout_due.true) c.time_out.ensures

pub returns-then-date-line : goal.returns-then-date-line
unfolding in_frame choose
returns-then-date-line c =
    rw (← c.timeout_due.ensures, c.if-timeout_due.false, lt-ltb _ _ c.if-date-line.true)
    c.rest.ensures

pub returns : goal.returns
unfolding in_frame choose
returns c =
    rw (← c.timeout_due.ensures, c.if-timeout_due.false, le-ltb _ _ c.if-date-line.false)
    c.land.ensures
