-- `arm::below_threshold_at` meets its contract, by cases. Assumes nothing.
use mathlib.Core.Path.{ap, sym, ◌∙◌}
use Rattle.line.specs.Instants.{gone_below}
use Rattle.device.specs.Holds.{flight_of}
use Rattle.device.proofs.arm.below_threshold_at.Goals as goal

pub returns-in-None : goal.returns-in-None
unfolding gone_below
returns-in-None c =
    λ bytes. sym (ap (λ b. gone_below b (flight_of c.args.gone_at.now bytes c.args.flight))
    c.in-None.is)

pub returns-in-Some : goal.returns-in-Some
unfolding gone_below
returns-in-Some c =
    λ bytes. c.nth_gone.ensures bytes ∙ sym (ap
    (λ b. gone_below b (flight_of c.args.gone_at.now bytes
    c.args.flight)) c.in-Some.is)
