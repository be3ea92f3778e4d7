-- `passes::starts_later` meets its contract, case by case. Assumes nothing.
use Rattle.device.specs.Quiet.{starts_later}
use Rattle.device.proofs.passes.starts_later.Goals as goal

pub returns-in-None : goal.returns-in-None
unfolding starts_later
returns-in-None c = rw c.in-None.is

pub returns-in-Some : goal.returns-in-Some
unfolding starts_later
returns-in-Some c = rw (c.in-Some.is, c.later.ensures)
