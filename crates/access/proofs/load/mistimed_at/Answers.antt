-- `load::mistimed_at` meets its contract, by the test. Assumes nothing.
use Rattle.model.specs.Numbers.{choose}
use Rattle.access.proofs.load.mistimed_at.Goals as goal

pub returns-then-looks : goal.returns-then-looks
unfolding choose
returns-then-looks c = rw c.if-looks.true

pub returns-else-looks : goal.returns-else-looks
unfolding choose
returns-else-looks c = rw c.if-looks.false
