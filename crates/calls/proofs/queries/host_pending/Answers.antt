-- `queries::host_pending` meets its contract. Assumes nothing.
use mathlib.Core.Path.{ap}
use Rattle.model.specs.Run.{number_of}
use Rattle.calls.specs.Undated.{pending_reply}
use Rattle.calls.proofs.queries.host_pending.Goals as goal

pub returns : goal.returns
unfolding number_of
returns c = λ a. ap pending_reply (c.pending-count.ensures a)
