-- `answers::done_answer` meets its contract. Assumes nothing.
use Rattle.ffi.proofs.answers.done_answer.Goals as goal

pub returns : goal.returns
returns c = rw (c.answer.ensures, c.done_reply-plain_reply.ensures)
