-- `store::accepted` meets its contract, by the test. Assumes nothing.
use Rattle.model.specs.Numbers.{choose}
use Rattle.access.proofs.store.accepted.Goals as goal

pub returns-then-held : goal.returns-then-held
unfolding choose
returns-then-held c = rw c.if-held.true

pub returns-else-held : goal.returns-else-held
unfolding choose
returns-else-held c = rw c.if-held.false
