-- `arm::next_wake` meets its contract: each instant is the definition's. Assumes nothing.
use Rattle.device.specs.Arms.{armed-by}
use Rattle.device.proofs.arm.next_wake.Goals as goal

pub returns : goal.returns
returns c = λ a ea er hh rh.
    armed-by c.args.core
    a c.args.gone_at.now c.args.run_date ea er hh rh
    c.settings-settings.ensures
    (c.last_gone-last.ensures a.flight)
    c.waiting-waits.ensures
    c.next_landing-landing.ensures
    c.timeout_at-comes.ensures c.only_if-timeout.ensures
    c.below_threshold-which.ensures (c.below_threshold_at-below.ensures a.flight)
    (c.nth_gone-gone.ensures a.flight) c.only_if-first.ensures c.arm.ensures
