-- `modes::low_modes` meets its contract: the tests stand in the order of the bits. Assumes nothing.
use mathlib.Core.Path.{ap, ◌∙◌}
use Prim.Native.Nat.{ℕ}
use Rattle.model.specs.Numbers.{bit}
use Rattle.model.specs.declared.Feature.{Feature}
use Rattle.replies.specs.Modes.{mode_if}
use Rattle.replies.proofs.modes.low_modes.Goals as goal

pub returns : goal.returns
returns c =
    let v : ℕ = c.args.value in
    c.refuse_mode.ensures
    ∙ ap (mode_if (bit 16 v) Feature.Irda)
    (c.refuse_mode-held.ensures
    ∙ ap (mode_if (bit 15 v) Feature.TxFlowControl)
    (c.refuse_mode-looped.ensures
    ∙ ap (mode_if (bit 14 v) Feature.Loopback)
    (c.refuse_mode-broken.ensures
    ∙ ap (mode_if (bit 8 v) Feature.TxBreak)
    c.none.ensures)))
