-- `clock_change::with_period` meets its contract. Assumes nothing.
use Rattle.calls.proofs.clock_change.with_period.Goals as goal

pub returns : goal.returns
returns c = rw c.new-clock.ensures
