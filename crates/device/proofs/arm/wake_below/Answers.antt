-- `arm::wake_below` meets its contract. Assumes nothing.
use Rattle.device.specs.Arms.{below_by}
use Rattle.device.proofs.arm.wake_below.Goals as goal

pub returns : goal.returns
returns c = λ a eg.
    let o = c.args in
    below_by o.wake o.conf1 o.flight a eg c.below_threshold-which.ensures
    (c.below_threshold_at-below.ensures a.flight) c.arm.ensures
