-- The register map: the registers in the order of set-up, and the nine words that are stored. Assumes nothing.
use Rattle.std.specs.Prelude.{ℕ, suc, Bool, List, [], ◌∷◌, eqb}
use Rattle.std.proofs.Math.Bool.{decide}
use Rattle.model.specs.Numbers.{choose}
use Rattle.model.specs.declared.Words.{Words}

-- a word that is stored
pub data Word : Type 0 where
  int_ena clkdiv conf0 conf1 clk_conf idle_conf rs485_conf at_cmd_char mem_conf : Word
  deriving Discrete as word-discrete

-- a word that is made up on reading
pub data Shown : Type 0 where
  int_raw int_st status fsm_status mem_rx_status : Shown
  deriving Discrete as shown-discrete

-- a stored word is read and written, a shown one only read, INT_CLR only written; unknown is for an offset that the map lacks
pub data Register : Type 0 where
  fifo int_clr unknown : Register
  shown : Shown → Register
  stored : Word → Register
  deriving Discrete as register-discrete

-- whether two are one; the derived test's type says that it decides that
abbrev pub same_word : Word → Word → Bool
same_word x y = decide (word-discrete x y)

abbrev pub same_register : Register → Register → Bool
same_register r s = decide (register-discrete shown-discrete word-discrete r s)

abbrev pub is_fifo : Register → Bool
is_fifo r = same_register r fifo

-- ---- the offset becomes a register, at its place

-- in the order of set-up
abbrev pub registers : List Register
registers =
    fifo ∷ shown int_raw ∷ shown int_st ∷ stored int_ena ∷ int_clr ∷ stored clkdiv ∷ shown status ∷ shown fsm_status ∷ stored conf0
    ∷ stored conf1 ∷ stored clk_conf ∷ stored idle_conf ∷ stored rs485_conf ∷ stored at_cmd_char ∷ stored mem_conf ∷ shown mem_rx_status
    ∷ []

unfoldable pub register_among : ℕ → List ℕ → List Register → Register
register_among offset [] rs = unknown
register_among offset (o ∷ os) [] = unknown
register_among offset (o ∷ os) (r ∷ rs) = choose (eqb offset o) r (register_among offset os rs)

unfoldable pub register_of : List ℕ → ℕ → Register
register_of offsets offset = register_among offset offsets registers

-- how many registers stand before one
unfoldable pub place_among : Register → List Register → ℕ
place_among r [] = 0
place_among r (s ∷ rs) = choose (same_register r s) 0 (suc (place_among r rs))

-- ---- Storage: nine words, bit for bit

unfoldable pub value_of : Words → Word → ℕ
value_of w int_ena = w.int_ena
value_of w clkdiv = w.clkdiv
value_of w conf0 = w.conf0
value_of w conf1 = w.conf1
value_of w clk_conf = w.clk_conf
value_of w idle_conf = w.idle_conf
value_of w rs485_conf = w.rs485_conf
value_of w at_cmd_char = w.at_cmd_char
value_of w mem_conf = w.mem_conf

-- nine words, each by its name
unfoldable pub words_by : (Word → ℕ) → Words
words_by value = record {
  int_ena = value int_ena;
  clkdiv = value clkdiv;
  conf0 = value conf0;
  conf1 = value conf1;
  clk_conf = value clk_conf;
  idle_conf = value idle_conf;
  rs485_conf = value rs485_conf;
  at_cmd_char = value at_cmd_char;
  mem_conf = value mem_conf;
}

-- one word replaced, the others kept
unfoldable pub replaced : Word → ℕ → Words → Words
replaced x v w = words_by (λ y. choose (same_word x y) v (value_of w y))
