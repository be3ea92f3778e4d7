-- `notices::put_count` meets its contract: three texts, one after the other. Assumes nothing.
use Rattle.text.specs.Chains.{and_then}
use Rattle.answers.proofs.notices.put_count.Goals as goal

pub returns : goal.returns
returns c =
    and_then (and_then c.put_notice-named.ensures (λ _. c.put-star.ensures))
    (λ _. c.put_decimal.ensures)
