-- The levels and the interrupt as functions of the line alone, joined to the definition's, which are of the control.
-- Assumes nothing.
use Rattle.std.specs.Prelude.{◌≡◌, refl, ℕ, Bool, not, eqb}
use Rattle.std.specs.Int.Bits.{bit_and}
use Rattle.model.specs.Setters.{with_line, with_level}
use Rattle.model.specs.Line.{RXFIFO-FULL, TXFIFO-EMPTY, raise_if}
use Rattle.model.specs.Settle
use Rattle.model.specs.Settle.{above_full, below_empty, assert_levels, drive}
use Rattle.model.specs.declared.Line.{Line}
use Rattle.model.specs.declared.Control.{Control}

-- with so many bytes held and in flight, the bits that CONF1's thresholds raise
unfoldable pub levels : ℕ → ℕ → ℕ → Line → Line
levels conf1 held flying l = raise_if (below_empty conf1 flying) TXFIFO-EMPTY (raise_if (above_full conf1 held) RXFIFO-FULL l)

-- INT_ST: the bits of INT_RAW that INT_ENA lets through
abbrev pub int_status : ℕ → Line → ℕ
int_status int_ena l = bit_and l.int_raw int_ena

-- any of them drives the interrupt
abbrev pub level : ℕ → Line → Bool
level int_ena l = not (eqb (int_status int_ena l) 0)

pub levels-line : (held flying : ℕ) (c : Control) → assert_levels held flying c ≡ with_line (levels c.words.conf1 held flying c.line) c
unfolding assert_levels levels
levels-line held flying c = refl

pub status-line : (c : Control) → Settle.int_status c ≡ int_status c.words.int_ena c.line
unfolding Settle.int_status
status-line c = refl

pub drive-line : (c : Control) → drive c ≡ with_level (level c.words.int_ena c.line) c
unfolding drive Settle.int_status
drive-line c = refl
