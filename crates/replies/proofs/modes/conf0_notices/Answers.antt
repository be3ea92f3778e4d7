-- `modes::conf0_notices` meets its contract: the tests stand in the order of the bits. Assumes nothing.
use mathlib.Core.Path.{ap, ap₂, ◌∙◌}
use Prim.Native.Nat.{ℕ}
use lib.Dec.{eqb}
use Rattle.model.specs.Numbers.{bit}
use Rattle.model.specs.declared.Feature.{Feature}
use Rattle.replies.specs.Modes.{mode_if, conf0-noted}
use Rattle.replies.proofs.modes.conf0_notices.Goals as goal

pub returns : goal.returns
returns c =
    let v : ℕ = c.args.value in
    c.note_if.ensures
    ∙ ap₂ (λ t n. mode_if t Feature.NoStopBit n) (ap (λ n. eqb n 0) c.stop_bit_num-no_stop_bit.ensures)
    (c.refuse_mode-baud.ensures
    ∙ ap (mode_if (bit 27 v) Feature.Autobaud)
    (c.refuse_mode-tx.ensures
    ∙ ap (mode_if (bit 22 v) Feature.InvertedTx)
    (c.refuse_mode-rx.ensures
    ∙ ap (mode_if (bit 19 v) Feature.InvertedRx)
    c.low_modes-low.ensures)))
    ∙ conf0-noted v
