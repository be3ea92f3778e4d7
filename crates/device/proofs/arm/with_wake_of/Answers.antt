-- `arm::with_wake_of` meets its contract, field by field. Assumes nothing.
use Rattle.device.proofs.arm.with_wake_of.Goals as goal

pub returns : goal.returns
returns c = rw c.with_wake-control.ensures
