-- `send::starts_at` meets its contract, by cases on the last date. Assumes nothing.
use Rattle.model.specs.Registers.{starts_at}
use Rattle.access.proofs.send.starts_at.Goals as goal

pub returns-in-None : goal.returns-in-None
unfolding starts_at
returns-in-None c = rw c.in-None.is

pub returns-in-Some : goal.returns-in-Some
unfolding starts_at
returns-in-Some c = rw c.in-Some.is c.later.ensures
