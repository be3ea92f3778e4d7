-- `Uart::new` meets its contract: the queues are empty, whatever stands in their slots. Assumes nothing.
use mathlib.Core.Path.{refl}
use native.Mathlib.Omega.{arith}
use Rattle.uart.specs.Whole.{zeros, new-means, new-good}
use Rattle.uart.proofs.Uart.new.Goals as goal

pub returns : goal.returns
returns c =
    let o = c.args in
    rw c.set_up-made.ensures
    (record {
      replies = refl;
      core = refl;
      slots = refl;
      state = new-means o.offsets o.resets zeros;
      good = λ ready. new-good o.offsets o.resets zeros (omega arith) (refl, refl, refl, refl, refl, refl, refl) refl ready;
    })
