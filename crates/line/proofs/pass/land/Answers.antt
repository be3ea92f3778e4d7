-- `pass::land` meets its contract. Assumes nothing.
use Rattle.line.specs.Moves.{landing}
use Rattle.line.proofs.pass.land.Goals as goal

pub returns : goal.returns
unfolding landing
returns c = rw (c.land.ensures, c.fate-fate.ensures)
