-- `write::low_byte` meets its contract: a mask of 8 bits. Assumes nothing.
use native.Mathlib.Omega.{arith}
use lib.Bits.{and_mask, mask_lt}
use Rattle.access.proofs.write.low_byte.Goals as goal

pub overflow_cast-result : goal.overflow_cast-result
overflow_cast-result c = omega (arith, mask_lt c.args.value 8)

pub returns : goal.returns
returns c = and_mask c.args.value 8
