-- `stop_half_bits` meets its contract, case by case. Assumes nothing.
use mathlib.Core.Path.{sym, ap}
use native.Mathlib.Omega.{arith}
use Rattle.model.specs.Timing.{stop_half_bits}
use Rattle.timing.specs.Cases.{stop-one, stop-two}
use Rattle.timing.proofs.stop_half_bits.Goals as goal

pub returns-in-2 : goal.returns-in-2
unfolding stop_half_bits
returns-in-2 c = sym (ap stop_half_bits c.in-2.is)

pub returns-in-0-to-1 : goal.returns-in-0-to-1
returns-in-0-to-1 c = sym (stop-one _ (omega arith))

pub returns-in_default : goal.returns-in_default
returns-in_default c = sym (stop-two _ (omega arith))
