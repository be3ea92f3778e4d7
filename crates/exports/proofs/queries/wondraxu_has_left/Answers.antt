-- `queries::wondraxu_has_left` meets its contract, which is that of `has_left` over the core that was meant. Assumes nothing.
use mathlib.Core.Path.{ap, ◌∙◌}
use Rattle.ffi.specs.Replies.{plain_left}
use Rattle.exports.proofs.queries.wondraxu_has_left.Goals as goal

pub returns : goal.returns
returns c = λ a. c.left_reply.ensures ∙ ap plain_left (rw c.core_of-from.ensures at (c.has_left-answer.ensures a))
