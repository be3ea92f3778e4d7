-- `set_up::idle_status` meets its contract. Assumes nothing.
use mathlib.Core.Path.{refl}
use Rattle.calls.proofs.set_up.idle_status.Goals as goal

pub returns : goal.returns
returns c = refl
