-- RXFIFO_FULL and TXFIFO_EMPTY, asserted in between, add nothing: with more bytes held and fewer in flight they are asserted
-- again. Assumes nothing.
use Rattle.std.specs.Prelude.{◌≡◌, ℕ, ◌-◌, ◌≤◌, true, length}
use Rattle.std.proofs.Math.Path.{refl, ap}
use Rattle.std.proofs.Common.{sym, ◌∙◌, arith, ltb-true, lt-ltb}
use Rattle.std.specs.Int.Bits.{bit_or}
use Rattle.model.specs.Numbers.{field}
use Rattle.model.specs.State.{Uart, line_of}
use Rattle.model.specs.Setters.{with_int_raw, with_line, with_control}
use Rattle.model.specs.Line.{RXFIFO-FULL, TXFIFO-EMPTY, raise_if}
use Rattle.model.specs.Settle.{above_full, in_fifo, empty_threshold, below_empty, assert_levels, int_status, drive, levels}
use Rattle.theorems.specs.TwoSteps.Raises.{raises, raises-free, raises-swap, raises-within}
use Rattle.theorems.specs.TwoSteps.Dressed.{Dress, dressed}

-- the rise of both bits, with so many held and so many in flight
abbrev asserted : ℕ → ℕ → ℕ → ℕ → ℕ
asserted conf1 held flying raw = raises (below_empty conf1 flying) TXFIFO-EMPTY (raises (above_full conf1 held) RXFIFO-FULL raw)

pub asserted-free : (conf1 held flying x n : ℕ) → asserted conf1 held flying (bit_or x n) ≡ bit_or (asserted conf1 held flying x) n
asserted-free conf1 held flying x n =
    ap (raises (below_empty conf1 flying) TXFIFO-EMPTY) (raises-free (above_full conf1 held) RXFIFO-FULL x n)
    ∙ raises-free (below_empty conf1 flying) TXFIFO-EMPTY (raises (above_full conf1 held) RXFIFO-FULL x) n

full-more : (conf1 h k : ℕ) → h ≤ k → above_full conf1 h ≡ true → above_full conf1 k ≡ true
unfolding above_full
full-more conf1 h k le t = lt-ltb (field 0 9 conf1) k (omega (arith, ltb-true (field 0 9 conf1) h t))

pub empty-less : (conf1 f g : ℕ) → g ≤ f → below_empty conf1 f ≡ true → below_empty conf1 g ≡ true
unfolding below_empty in_fifo
empty-less conf1 f g le t = lt-ltb (g - 1) (empty_threshold conf1) (omega (arith, ltb-true (f - 1) (empty_threshold conf1) t))

asserted-again : (conf1 h k f g raw : ℕ) → h ≤ k → g ≤ f → asserted conf1 k g (asserted conf1 h f raw) ≡ asserted conf1 k g raw
asserted-again conf1 h k f g raw p q =
    let full = raises (above_full conf1 h) RXFIFO-FULL raw in
    ap (raises (below_empty conf1 g) TXFIFO-EMPTY)
    (raises-swap (above_full conf1 k) (below_empty conf1 f) RXFIFO-FULL TXFIFO-EMPTY full)
    ∙ raises-within (below_empty conf1 f) (below_empty conf1 g) TXFIFO-EMPTY (raises (above_full conf1 k) RXFIFO-FULL full)
    (empty-less conf1 f g q)
    ∙ ap (raises (below_empty conf1 g) TXFIFO-EMPTY)
    (raises-within (above_full conf1 h) (above_full conf1 k) RXFIFO-FULL raw (full-more conf1 h k p))

module _ {H W : Type 0} where
  -- what a settling's end does to a state, as something that the passes do not look at
  abbrev pub leveling : Uart H W → Dress W
  leveling w = record {
    flying = λ fl. fl;
    sent = λ fl tx. tx;
    level = λ _. (levels w).control.level;
    raise = λ _. asserted w.control.words.conf1 (length w.rx) (length w.in_flight);
    free = λ _. asserted-free w.control.words.conf1 (length w.rx) (length w.in_flight);
  }

  pub levels-dressed : (w : Uart H W) → levels w ≡ dressed (leveling w) w
  unfolding levels assert_levels drive raise_if
  levels-dressed w = refl

  -- the interrupt level is driven anew
  pub levels-again : (w z : Uart H W) → z.control.words ≡ w.control.words → length w.rx ≤ length z.rx
      → length z.in_flight ≤ length w.in_flight → levels (dressed (leveling w) z) ≡ levels z
  unfolding levels assert_levels drive int_status raise_if
  levels-again w z e p q =
      ap (λ (raw : ℕ). with_control (drive (with_line (with_int_raw raw (line_of z)) z.control)) z)
      (ap (λ c. asserted z.control.words.conf1 (length z.rx) (length z.in_flight)
      (asserted c.conf1 (length w.rx) (length w.in_flight) (line_of z).int_raw)) (sym e)
      ∙ asserted-again z.control.words.conf1 (length w.rx) (length z.rx) (length w.in_flight) (length z.in_flight)
      (line_of z).int_raw p q)
