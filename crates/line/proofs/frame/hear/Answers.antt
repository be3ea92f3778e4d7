-- `frame::hear` meets its contract, by the test of the receiver's clock. Assumes nothing.
use Rattle.model.specs.Numbers.{choose}
use Rattle.line.proofs.frame.hear.Goals as goal

pub returns-then-settings : goal.returns-then-settings
unfolding choose
returns-then-settings c = rw (c.if-settings.true, c.note_source.ensures, c.with_idle_since.ensures)

pub returns-else-settings : goal.returns-else-settings
unfolding choose
returns-else-settings c = rw c.if-settings.false
