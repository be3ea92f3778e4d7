-- `send::gone_after` meets its contract. Assumes nothing.
use Rattle.access.proofs.send.gone_after.Goals as goal

pub returns : goal.returns
returns c = λ bytes. rw (c.after.ensures, c.starts_at.ensures, c.last_gone-last.ensures bytes)
