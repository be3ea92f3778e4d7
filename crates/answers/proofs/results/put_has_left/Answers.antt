-- `results::put_has_left` meets its contract. Assumes nothing.
use Rattle.text.specs.Chains.{put_of}
use Rattle.answers.specs.Replies.{has_left_text}
use Rattle.answers.proofs.results.put_has_left.Goals as goal

pub returns-then-has_left : goal.returns-then-has_left
returns-then-has_left c = put_of has_left_text c.if-has_left.true c.put.ensures

pub returns-else-has_left : goal.returns-else-has_left
returns-else-has_left c = put_of has_left_text c.if-has_left.false c.put-else-has_left.ensures
