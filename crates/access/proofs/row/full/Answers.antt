-- `row::full` meets its contract. Assumes nothing.
use mathlib.Core.Path.{refl}
use Rattle.model.specs.Tests.{transmit_full}
use Rattle.access.proofs.row.full.Goals as goal

pub returns : goal.returns
unfolding transmit_full
returns c = refl
