-- `take_written::fill` meets its contract: the second copy stands after the first. Assumes nothing.
use mathlib.Core.Path.{refl}
use Rattle.queue.specs.CopyOut.{copied-after}
use Rattle.host.proofs.take_written.fill.Goals as goal

pub returns : goal.returns
returns c =
    let o = c.args in (
      rw (c.copy_out-left.ensures.value, c.copy_out-flying.ensures.value),
      copied-after 0 1152 129 o.tx.now o.flight.now o.core.tx o.core.flight o.out.now
          c.copy_out-left.ensures.value
          c.copy_out-left.ensures.out_after c.copy_out-flying.ensures.out_after refl,
    )
