-- `results::put_written` meets its contract: the hand-out, and the end of the line. Assumes nothing.
use Rattle.text.specs.Chains.{and_then}
use Rattle.answers.proofs.results.put_written.Goals as goal

pub returns : goal.returns
returns c =
    and_then c.put_hand_out-result.ensures (λ _. c.put.ensures)
    c.requires
