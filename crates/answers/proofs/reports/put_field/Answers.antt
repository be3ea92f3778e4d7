-- `reports::put_field` meets its contract: two texts, one after the other. Assumes nothing.
use Rattle.text.specs.Chains.{and_then}
use Rattle.answers.proofs.reports.put_field.Goals as goal

pub returns : goal.returns
returns c =
    and_then (λ _. c.put-named.ensures) (λ _. c.put_decimal.ensures)
