-- What arming and a call do to a Deadline that is armed, and to one that is not. Assumes nothing.
use Rattle.std.specs.Prelude.{◌≡◌, refl, ℕ, Some, None}
use Rattle.model.specs.Numbers.{choose, due_by, earliest}
use Rattle.model.specs.Arm.{armed, called}
use Rattle.model.specs.Names.{Date}

-- no instant arms nothing
pub armed-none : (due : Date) → armed None due ≡ due
unfolding earliest
armed-none None = refl
armed-none (Some cycle) = refl

pub called-none : (at : ℕ) → called at None ≡ None
unfolding called due_by choose
called-none at = refl
