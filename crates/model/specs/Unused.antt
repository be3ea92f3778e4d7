-- What the definition does not use: a word written to a place that takes none, and reset words that set-up passes over.
-- Assumes nothing.
use Rattle.std.specs.Prelude.{◌≡◌, ℕ, Bool, true, false, List}
use Rattle.model.specs.Map.{Shown, Register, shown}
use Rattle.model.specs.SetUp.{reset_of, words_among, idle_status}

-- whether a word written there does something: INT_CLR and the nine stored words. FIFO takes its low byte alone
abbrev pub takes_word : Register → Bool
takes_word Register.fifo = false
takes_word Register.int_clr = true
takes_word Register.unknown = false
takes_word (Register.shown s) = false
takes_word (Register.stored x) = true

-- the reset words that set-up uses are equal: the nine stored words, STATUS without its counts, and MEM_RX_STATUS
pub record SameInUse (ws ws' : List ℕ) : Type 0 where
  pub words : words_among ws ≡ words_among ws'
  pub status : idle_status ws ≡ idle_status ws'
  pub mem_rx_status : reset_of ws (shown Shown.mem_rx_status) ≡ reset_of ws' (shown Shown.mem_rx_status)
