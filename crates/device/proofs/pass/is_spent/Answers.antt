-- `pass::is_spent` meets its contract, by the test. Assumes nothing.
use Rattle.device.specs.Receives.{spent}
use Rattle.device.proofs.pass.is_spent.Goals as goal

pub returns-then-yes : goal.returns-then-yes
unfolding spent
returns-then-yes c = rw c.if-yes.true

pub returns-else-yes : goal.returns-else-yes
unfolding spent
returns-else-yes c = rw c.if-yes.false
