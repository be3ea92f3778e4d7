-- `reports::put_front` meets its contract: four texts, one after the other. Assumes nothing.
use Rattle.text.specs.Chains.{and_then}
use Rattle.answers.proofs.reports.put_front.Goals as goal

pub returns : goal.returns
returns c =
    and_then (and_then (and_then (λ _. c.put_level-level.ensures) c.put_wake-wake.ensures)
    c.put_field-overflows.ensures) (λ _. c.put.ensures)
