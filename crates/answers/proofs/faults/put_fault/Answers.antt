-- `faults::put_fault` meets its contract: five texts, one after the other. Assumes nothing.
use Rattle.text.specs.Chains.{and_then}
use Rattle.answers.proofs.faults.put_fault.Goals as goal

pub returns : goal.returns
returns c =
    and_then (and_then (and_then (and_then (λ _. c.put-named.ensures)
    (λ _. c.put_reason-said.ensures))
    (λ _. c.put-quoted.ensures))
    c.put_start-word.ensures) (λ _. c.put.ensures)
    c.requires
