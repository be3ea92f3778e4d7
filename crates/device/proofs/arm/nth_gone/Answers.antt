-- `arm::nth_gone` meets its contract, by the test on the count. Assumes nothing.
use Rattle.std.specs.Prelude.{Some}
use mathlib.Core.Path.{ap, ◌∙◌}
use lib.ListN.{get_or}
use Rattle.device.specs.Arms.{gone-in, gone-out}
use Rattle.device.proofs.arm.nth_gone.Goals as goal

pub returns-then-n-flight : goal.returns-then-n-flight
returns-then-n-flight c =
    λ bytes. ap (λ i. Some (get_or c.args.gone_at.now i 0)) c.nth-at.ensures.0
    ∙ gone-in c.args.gone_at.now bytes c.args.flight
    c.args.n c.if-n-flight.true

pub returns : goal.returns
returns c =
    λ bytes. gone-out c.args.gone_at.now bytes c.args.flight c.args.n
    c.if-n-flight.false
