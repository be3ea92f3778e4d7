-- `half_bit_time` meets its contract: three factors within their bounds. Assumes nothing.
use native.Mathlib.Omega.{arith}
use Rattle.model.specs.Timing.{half_bit_time}
use Rattle.timing.specs.Bounds.{product-most, half-bit-most}
use Rattle.timing.proofs.half_bit_time.Goals as goal

pub overflow_mul-result : goal.overflow_mul-result
overflow_mul-result c =
    omega (
      arith,
      product-most c.divider-by.result c.source_divider-source_by.result 65535 256 (omega arith)
          (omega arith),
    )

pub overflow_mul-result-2 : goal.overflow_mul-result-2
unfolding half_bit_time
overflow_mul-result-2 c =
    rw (c.divider-by.ensures, c.source_divider-source_by.ensures, c.source_period-source.ensures)
    (omega (
      arith,
      half-bit-most c.args.w c.args.period
          c.requires,
    ))

pub returns : goal.returns
unfolding half_bit_time
returns c = rw (c.divider-by.ensures, c.source_divider-source_by.ensures, c.source_period-source.ensures)
