-- `power_down::with_powered_down_at` meets its contract. Assumes nothing.
use Rattle.calls.proofs.power_down.with_powered_down_at.Goals as goal

pub returns : goal.returns
returns c = rw c.control_down_at-control.ensures
