-- `results::put_hand_out` meets its contract: three texts, one after the other. Assumes nothing.
use Rattle.text.specs.Chains.{put_of, and_then}
use Rattle.answers.specs.Replies.{rest_text}
use Rattle.answers.proofs.results.put_hand_out.Goals as goal

pub returns-then-kept : goal.returns-then-kept
returns-then-kept c =
    and_then (and_then (λ _. c.put-named.ensures)
    (λ _. c.put_bytes-result.ensures))
    (λ _. put_of rest_text c.if-kept.true c.put.ensures)

pub returns-else-kept : goal.returns-else-kept
returns-else-kept c =
    and_then (and_then (λ _. c.put-named.ensures)
    (λ _. c.put_bytes-result.ensures))
    (λ _. put_of rest_text c.if-kept.false c.put-else-kept.ensures)
