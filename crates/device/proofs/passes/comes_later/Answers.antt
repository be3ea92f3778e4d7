-- `passes::comes_later` meets its contract, case by case. Assumes nothing.
use Rattle.device.specs.Quiet.{comes_later}
use Rattle.device.proofs.passes.comes_later.Goals as goal

pub returns-in-None : goal.returns-in-None
unfolding comes_later
returns-in-None c = rw c.in-None.is c.starts_later.ensures

pub returns-in-Some : goal.returns-in-Some
unfolding comes_later
returns-in-Some c = rw c.in-Some.is
