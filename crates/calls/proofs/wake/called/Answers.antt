-- `wake::called` meets its contract. Assumes nothing.
use Rattle.calls.proofs.wake.called.Goals as goal

pub returns : goal.returns
returns c = rw (c.with_wake_of.ensures, c.called-wake.ensures)
