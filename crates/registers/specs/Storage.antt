-- Storage as the code has it: the nine words over all places; what it does not hold is neither read nor written. Assumes nothing.
use Rattle.std.specs.Prelude.{ℕ, Bool, true, false}
use Rattle.std.proofs.Math.Option.{Option, none, some}
use Rattle.model.specs.Map.{Word, Register, fifo, int_clr, unknown, shown, stored, value_of, replaced}
use Rattle.model.specs.Replies.{ReadOf, word, no_value}
use Rattle.registers.specs.declared.places.Place.{Place}
use Rattle.model.specs.declared.Words.{Words}
use Rattle.registers.specs.Places.{register_at}

-- the word that is stored at a register, if one is
unfoldable pub held : Register → Option Word
held fifo = none
held int_clr = none
held unknown = none
held (shown s) = none
held (stored x) = some x

-- the word that is stored at a place
abbrev pub held_at : Place → Option Word
held_at p = held (register_at p)

unfoldable pub holds : Option Word → Bool
holds none = false
holds (some x) = true

unfoldable pub loaded : {H : Type 0} → Words → Option Word → ReadOf H
loaded w none = no_value
loaded w (some x) = word (value_of w x)

unfoldable pub written : Option Word → ℕ → Words → Words
written none v w = w
written (some x) v w = replaced x v w
