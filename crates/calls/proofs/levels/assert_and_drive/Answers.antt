-- `levels::assert_and_drive` meets its contract. Assumes nothing.
use Rattle.calls.proofs.levels.assert_and_drive.Goals as goal

pub returns : goal.returns
returns c = rw (c.level.ensures, c.assert_levels-line.ensures)
