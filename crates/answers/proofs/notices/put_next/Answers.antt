-- `notices::put_next` meets its contract: a comma, and then the notice. Assumes nothing.
use Rattle.text.specs.Chains.{and_then}
use Rattle.answers.proofs.notices.put_next.Goals as goal

pub returns : goal.returns
returns c =
    and_then (λ _. c.put-comma.ensures) c.put_notice.ensures
