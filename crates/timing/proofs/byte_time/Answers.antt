-- `byte_time` meets its contract. Assumes nothing.
use native.Mathlib.Omega.{arith}
use Rattle.model.specs.Timing.{byte_time}
use Rattle.timing.specs.Bounds.{byte-most}
use Rattle.timing.proofs.byte_time.Goals as goal

pub overflow_mul-result : goal.overflow_mul-result
unfolding byte_time
overflow_mul-result c =
    rw (c.frame_half_bits.ensures, c.half_bit_time.ensures)
    (omega (arith, byte-most c.args.w c.args.period c.requires))

pub returns : goal.returns
unfolding byte_time
returns c = rw (c.frame_half_bits.ensures, c.half_bit_time.ensures)
