-- `pass::choose` meets its contract, by the test. Assumes nothing.
use Rattle.model.specs.Numbers.{choose}
use Rattle.device.proofs.pass.choose.Goals as goal

pub returns-then-yes : goal.returns-then-yes
unfolding choose
returns-then-yes c = rw c.if-yes.true

pub returns-else-yes : goal.returns-else-yes
unfolding choose
returns-else-yes c = rw c.if-yes.false
