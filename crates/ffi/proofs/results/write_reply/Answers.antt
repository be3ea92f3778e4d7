-- `results::write_reply` meets its contract, case by case. Assumes nothing.
use mathlib.Core.Path.{ap, sym, ◌∙◌}
use Rattle.ffi.specs.Replies.{plain_write}
use Rattle.ffi.proofs.results.write_reply.Goals as goal

pub returns-in-Ok : goal.returns-in-Ok
unfolding plain_write
returns-in-Ok c = c.carried_out.ensures ∙ sym (ap plain_write c.in-Ok.is)

pub returns-in-Err : goal.returns-in-Err
unfolding plain_write
returns-in-Err c = c.refusal_reply.ensures ∙ sym (ap plain_write c.in-Err.is)
