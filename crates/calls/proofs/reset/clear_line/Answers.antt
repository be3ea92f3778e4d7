-- `reset::clear_line` meets its contract. Assumes nothing.
use mathlib.Core.Path.{refl}
use Rattle.model.specs.Calls.{cleared_line}
use Rattle.calls.proofs.reset.clear_line.Goals as goal

pub returns : goal.returns
unfolding cleared_line
returns c = refl
