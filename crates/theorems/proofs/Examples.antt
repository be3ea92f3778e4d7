-- The definition at work, computed: of two writes, a hand-over and a row, and of a write to an unknown place. Assumes nothing.
use Rattle.std.specs.Prelude.{◌≡◌, refl, ℕ, List, [], ◌∷◌}
use Rattle.model.specs.Numbers.{choose}
use Rattle.model.specs.Map.{register_of, register_among}
use Rattle.model.specs.Call.{Dated, Written, Call, Asked, Ask}
use Rattle.theorems.specs.Blanked.{blank_byte, blank_word, blank_written, blanked, blanked_asked, blanked_list}

-- offset 0 is FIFO, 4 INT_RAW and 12 INT_ENA
abbrev offsets : List ℕ
offsets = 0 ∷ 4 ∷ 8 ∷ 12 ∷ 16 ∷ 20 ∷ 24 ∷ 28 ∷ 32 ∷ 36 ∷ 40 ∷ 44 ∷ 48 ∷ 52 ∷ 56 ∷ 60 ∷ []

abbrev at : Dated ℕ Written ℕ ℕ → Ask
at c = Asked.call (Call.at 100 c)

abbrev write : ℕ → ℕ → Ask
write offset value = at (Dated.write (record { offset = offset; value = value }))

pattern : blanked_list offsets (write 0 82 ∷ write 12 256 ∷ at (Dated.receive 520 (114 ∷ 111 ∷ [])) ∷ Asked.row 200 (82 ∷ 83 ∷ 84 ∷ [])
    ∷ [])
    ≡ write 0 0 ∷ write 12 256 ∷ at (Dated.receive 520 (0 ∷ 0 ∷ [])) ∷ Asked.row 200 (0 ∷ 0 ∷ 0 ∷ []) ∷ []
unfolding blanked_asked blanked blank_written blank_word blank_byte choose register_of register_among
pattern = refl

-- INT_RAW is read-only, and no register has the absolute address 0x60000000
nowhere : blanked_list offsets (write 4 82 ∷ write 0x60000000 82 ∷ []) ≡ write 4 0 ∷ write 0x60000000 0 ∷ []
unfolding blanked_asked blanked blank_written blank_word choose register_of register_among
nowhere = refl
