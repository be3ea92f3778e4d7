-- `pass::time_out` meets its contract. Assumes nothing.
use Rattle.line.specs.Moves.{timing_out}
use Rattle.line.proofs.pass.time_out.Goals as goal

pub returns : goal.returns
unfolding timing_out
returns c = rw c.time_out.ensures
