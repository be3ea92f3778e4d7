-- `queries::wondraxu_host_pending` meets its contract, which is that of `host_pending` over the core that was meant. Assumes nothing.
use mathlib.Core.Path.{ap, ◌∙◌}
use Rattle.ffi.specs.Replies.{plain_pending}
use Rattle.exports.proofs.queries.wondraxu_host_pending.Goals as goal

pub host_pending-answer-requires : goal.host_pending-answer-requires
host_pending-answer-requires c = rw c.core_of-from.ensures c.requires

pub returns : goal.returns
returns c = λ a.
    c.pending_reply.ensures ∙ ap plain_pending (rw c.core_of-from.ensures at (c.host_pending-answer.ensures a))
