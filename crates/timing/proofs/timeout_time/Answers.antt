-- `timeout_time` meets its contract. Assumes nothing.
use native.Mathlib.Omega.{arith}
use Rattle.model.specs.Timing.{timeout_time}
use Rattle.timing.specs.Bounds.{timeout-most}
use Rattle.timing.proofs.timeout_time.Goals as goal

pub overflow_mul-result : goal.overflow_mul-result
unfolding timeout_time
overflow_mul-result c =
    rw (c.from.ensures, c.rx_tout_thrhd.ensures, c.bit_time.ensures)
    (omega (
      arith,
      timeout-most c.args.w c.args.period
          c.requires,
    ))

pub returns : goal.returns
unfolding timeout_time
returns c = rw (c.from.ensures, c.rx_tout_thrhd.ensures, c.bit_time.ensures)
