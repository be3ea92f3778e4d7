-- `reports::put_passes` meets its contract: two texts, one after the other. Assumes nothing.
use Rattle.text.specs.Chains.{and_then}
use Rattle.answers.proofs.reports.put_passes.Goals as goal

pub returns : goal.returns
returns c =
    and_then c.put_field-number.ensures (λ _. c.put.ensures)
