-- `answers::read_answer` meets its contract. Assumes nothing.
use Rattle.ffi.proofs.answers.read_answer.Goals as goal

pub returns : goal.returns
returns c = rw (c.answer.ensures, c.read_reply-plain_reply.ensures)
