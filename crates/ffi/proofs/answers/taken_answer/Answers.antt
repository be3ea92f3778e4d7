-- `answers::taken_answer` meets its contract. Assumes nothing.
use Rattle.ffi.proofs.answers.taken_answer.Goals as goal

pub returns : goal.returns
returns c = rw (c.answer.ensures, c.taken_reply-plain_reply.ensures)
