-- `passes::quiet` meets its contract, case by case. Assumes nothing.
use Rattle.device.specs.Quiet.{quiet}
use Rattle.device.proofs.passes.quiet.Goals as goal

pub returns-in-None : goal.returns-in-None
unfolding quiet
returns-in-None c = rw c.in-None.is c.comes_later.ensures

pub returns-in-Some : goal.returns-in-Some
unfolding quiet
returns-in-Some c = rw c.in-Some.is
