-- `pass::idle` meets its contract, by the timeout's date. Assumes nothing.
use Rattle.model.specs.Numbers.{choose}
use Rattle.line.specs.Moves.{idle}
use Rattle.line.proofs.pass.idle.Goals as goal

pub returns-then-timeout_due : goal.returns-then-timeout_due
unfolding idle choose
returns-then-timeout_due c = rw (← c.timeout_due.ensures, c.if-timeout_due.true) c.time_out.ensures

pub returns-else-timeout_due : goal.returns-else-timeout_due
unfolding idle choose
returns-else-timeout_due c = rw (← c.timeout_due.ensures, c.if-timeout_due.false) c.rest.ensures
