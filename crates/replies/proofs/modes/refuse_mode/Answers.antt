-- `modes::refuse_mode` meets its contract: the mode is noted where its bit is set. Assumes nothing.
use Rattle.replies.proofs.modes.refuse_mode.Goals as goal

pub returns : goal.returns
returns c = rw (c.note_if.ensures, c.bit_at-set.ensures)
