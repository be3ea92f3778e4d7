-- `answers::write_answer` meets its contract. Assumes nothing.
use Rattle.ffi.proofs.answers.write_answer.Goals as goal

pub returns : goal.returns
returns c = rw (c.answer.ensures, c.write_reply-plain_reply.ensures)
