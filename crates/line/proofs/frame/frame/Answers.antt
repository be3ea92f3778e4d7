-- `frame::frame` meets its contract. Assumes nothing.
use mathlib.Core.Path.{refl}
use Rattle.model.specs.Line.{frame}
use Rattle.line.proofs.frame.frame.Goals as goal

pub returns : goal.returns
unfolding frame
returns c = refl
