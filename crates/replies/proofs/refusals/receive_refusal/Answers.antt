-- `refusals::receive_refusal` meets its contract: where the host queue is full, the dates have passed. Assumes nothing.
use Rattle.std.proofs.Common.{arith}
use Rattle.replies.specs.Chains.{dates_rest, refuse_first}
use Rattle.replies.specs.Refusals.{receiving}
use Rattle.replies.proofs.refusals.receive_refusal.Goals as goal

pub returns-in_err-refuse_if : goal.returns-in_err-refuse_if
unfolding receiving
returns-in_err-refuse_if c = grind (arith, dates_rest, refuse_first)
