-- `set_up::new_control` meets its contract, field by field. Assumes nothing.
use mathlib.Core.Path.{refl}
use Rattle.model.specs.SetUp.{new_control}
use Rattle.calls.proofs.set_up.new_control.Goals as goal

pub returns : goal.returns
unfolding new_control
returns c = refl
