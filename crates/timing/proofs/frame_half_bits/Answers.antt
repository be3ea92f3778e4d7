-- `frame_half_bits` meets its contract: its parts are the fields of CONF0. Assumes nothing.
use native.Mathlib.Omega.{arith}
use Rattle.model.specs.Timing.{frame_half_bits}
use Rattle.timing.specs.Bounds.{stop-most}
use Rattle.timing.proofs.frame_half_bits.Goals as goal

pub overflow_add-result-4 : goal.overflow_add-result-4
overflow_add-result-4 c = omega (arith, c.stop_half_bits-stop.ensures, stop-most c.stop_bit_num.result)

pub returns : goal.returns
unfolding frame_half_bits
returns c =
    rw (
      c.from-data.ensures,
      c.bit_num.ensures,
      c.from-parity.ensures,
      c.parity_en.ensures,
      c.stop_half_bits-stop.ensures,
      c.stop_bit_num.ensures,
    )
