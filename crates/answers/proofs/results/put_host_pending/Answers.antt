-- `results::put_host_pending` meets its contract: three texts, one after the other. Assumes nothing.
use Rattle.text.specs.Chains.{and_then}
use Rattle.answers.proofs.results.put_host_pending.Goals as goal

pub returns : goal.returns
returns c =
    and_then (and_then (λ _. c.put-named.ensures)
    (λ _. c.put_decimal-number.ensures)) (λ _. c.put.ensures)
    c.requires
