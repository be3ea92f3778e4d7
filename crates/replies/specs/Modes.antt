-- What a stored word notes; the modes of CONF0 that are refused by name, noted one by one, are the definition's. Assumes nothing.
use Rattle.std.specs.Prelude.{◌≡◌, ℕ, Bool, List, [], ◌∷◌, eqb}
use Rattle.std.proofs.Common.{arith}
use Rattle.std.proofs.Math.Option.{Option, none, some}
use Rattle.model.specs.Numbers.{bit, field}
use Rattle.model.specs.Map.{Word}
use Rattle.model.specs.Registers.{conf0_notes, stored_notes}
use Rattle.model.specs.declared.Feature.{Feature}
use Rattle.model.specs.declared.Feature.TheVariants.{Loopback, InvertedRx, Autobaud, NoStopBit, TxFlowControl, InvertedTx, Irda, TxBreak}
use Rattle.model.specs.declared.Unsupported.{Unsupported}
use Rattle.model.specs.declared.Unsupported.TheVariants.{UartFeature}
use Rattle.replies.specs.Notices.{noted, added_if}
use Rattle.replies.specs.NoticeLaws.{Mark, marked, filled, filled-noted}
use Rattle.replies.specs.declared.notices.Notices.{Notices}

-- what is noted where a word is stored; elsewhere nothing is
unfoldable pub notes_at : Option Word → ℕ → List Unsupported
notes_at none v = []
notes_at (some x) v = stored_notes x v

-- the modes of CONF0 that are refused by name, in the order of their bits, and then a stop code of 0
abbrev pub mode_if : Bool → Feature → Notices → Notices
mode_if t mode n = added_if t (UartFeature mode) n

abbrev pub low_modes : ℕ → Notices → Notices
low_modes v n = mode_if (bit 16 v) Irda (mode_if (bit 15 v) TxFlowControl (mode_if (bit 14 v) Loopback (mode_if (bit 8 v) TxBreak n)))

abbrev pub high_modes : ℕ → Notices → Notices
high_modes v n =
    mode_if (eqb (field 4 2 v) 0) NoStopBit (mode_if (bit 27 v) Autobaud (mode_if (bit 22 v) InvertedTx (mode_if (bit 19 v) InvertedRx n)))

mode : Bool → Feature → Mark
mode t f = record { test = t; what = UartFeature f }

-- the modes of CONF0 in the order of their bits, then a stop code of 0
pub conf0-noted : (v : ℕ) → high_modes v (low_modes v (noted [])) ≡ noted (conf0_notes v)
unfolding filled marked mode conf0_notes
conf0-noted v =
    filled-noted
    (mode (bit 8 v) Feature.TxBreak
    ∷ mode (bit 14 v) Feature.Loopback
    ∷ mode (bit 15 v) Feature.TxFlowControl
    ∷ mode (bit 16 v) Feature.Irda
    ∷ mode (bit 19 v) Feature.InvertedRx
    ∷ mode (bit 22 v) Feature.InvertedTx
    ∷ mode (bit 27 v) Feature.Autobaud
    ∷ mode (eqb (field 4 2 v) 0) Feature.NoStopBit
    ∷ [])
    [] (omega arith)
