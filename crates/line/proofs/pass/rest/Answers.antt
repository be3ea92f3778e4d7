-- `pass::rest` meets its contract. Assumes nothing.
use mathlib.Core.Path.{refl}
use Rattle.line.specs.Moves.{resting}
use Rattle.line.proofs.pass.rest.Goals as goal

pub returns : goal.returns
unfolding resting
returns c = refl
