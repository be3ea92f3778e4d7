-- `input::start` meets its contract. Assumes nothing.
use Rattle.blank.proofs.input.start.Goals as goal

pub returns : goal.returns
returns c = rw c.begin.ensures
