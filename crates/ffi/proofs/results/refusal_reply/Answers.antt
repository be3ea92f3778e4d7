-- `results::refusal_reply` meets its contract. Assumes nothing.
use Rattle.ffi.proofs.results.refusal_reply.Goals as goal

pub returns : goal.returns
returns c = rw c.number_of.ensures
