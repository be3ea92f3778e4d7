-- `bit_time` meets its contract. Assumes nothing.
use native.Mathlib.Omega.{arith}
use Rattle.model.specs.Timing.{bit_time}
use Rattle.timing.specs.Bounds.{half-bit-most}
use Rattle.timing.proofs.bit_time.Goals as goal

pub overflow_mul-result : goal.overflow_mul-result
overflow_mul-result c = omega (arith, c.half_bit_time.ensures, half-bit-most c.args.w c.args.period c.requires)

pub returns : goal.returns
unfolding bit_time
returns c = rw c.half_bit_time.ensures
