-- `results::read_reply` meets its contract, case by case. Assumes nothing.
use mathlib.Core.Path.{ap, sym, ◌∙◌}
use Rattle.ffi.specs.Replies.{plain_read}
use Rattle.ffi.proofs.results.read_reply.Goals as goal

pub returns-in-Some : goal.returns-in-Some
unfolding plain_read
returns-in-Some c = rw (c.in-Ok.is, c.in-Some.is) c.carried_out.ensures

pub returns-in-None : goal.returns-in-None
unfolding plain_read
returns-in-None c = rw (c.in-Ok.is, c.in-None.is) c.carried_out-in-None.ensures

pub returns-in-Err : goal.returns-in-Err
unfolding plain_read
returns-in-Err c = c.refusal_reply.ensures ∙ sym (ap plain_read c.in-Err.is)
