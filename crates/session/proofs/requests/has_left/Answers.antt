-- `requests::has_left` meets its contract. Assumes nothing.
use Rattle.session.specs.Answers.{left-gives}
use Rattle.session.proofs.requests.has_left.Goals as goal

pub returns : goal.returns
returns c =
    let far = c in
    left-gives _ c.requires c.in_use.ensures c.has_left-answer.ensures
    c.put_has_left-next.ensures
