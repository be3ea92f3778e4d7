-- The UART before the first set-up: what it stands for, and that it is within the limits. Assumes nothing.
use Rattle.std.specs.Prelude.{◌≡◌, List, [], ◌∷◌, ℕ, replicate}
use Rattle.model.specs.SetUp.{new}
use Rattle.uart.specs.Whole.{meaning, Good}
use Rattle.uart.specs.declared.Uart.{Uart}

-- sixteen offsets that all differ
abbrev pub offsets : List ℕ
offsets = 0 ∷ 4 ∷ 8 ∷ 12 ∷ 16 ∷ 20 ∷ 24 ∷ 28 ∷ 32 ∷ 36 ∷ 40 ∷ 44 ∷ 48 ∷ 52 ∷ 56 ∷ 60 ∷ []

-- it is the new UART of these offsets and of reset words that are all 0
pub record StandsIn (u : Uart) : Type 0 where
  pub state : meaning u ≡ new offsets (replicate 16 0)
  pub good : Good u
