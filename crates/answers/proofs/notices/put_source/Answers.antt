-- `notices::put_source` meets its contract: three texts, one after the other. Assumes nothing.
use Rattle.text.specs.Chains.{and_then}
use Rattle.answers.proofs.notices.put_source.Goals as goal

pub returns : goal.returns
returns c =
    and_then (and_then (λ _. c.put-named.ensures)
    (λ _. c.put_decimal-number.ensures)) (λ _. c.put.ensures)
