-- `arm::last_gone` meets its contract, by the test on the count. Assumes nothing.
use Rattle.device.specs.Arms.{last-in, last_none}
use Rattle.device.proofs.arm.last_gone.Goals as goal

pub returns-then-flight-gt0 : goal.returns-then-flight-gt0
returns-then-flight-gt0 c =
    λ bytes. last-in c.args.gone_at.now bytes c.args.flight
    (c.nth_gone.ensures bytes)

pub returns : goal.returns
returns c = λ bytes. last_none c.args.gone_at.now bytes c.args.flight c.if-flight-gt0.false
