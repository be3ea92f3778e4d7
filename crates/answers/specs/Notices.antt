-- The text of a report's notices, by their names in diag.rs. Assumes nothing.
use Rattle.std.specs.Prelude.{◌≡◌, ℕ, zero, suc, ◌+◌, ◌-◌, ◌<◌, length, take, drop, get_or}
use Rattle.std.proofs.Math.Path.{refl}
use Rattle.std.proofs.Common.{ap, sym, ◌∙◌, arith, length-drop, take-suc, get_or-drop}
use mathlib.Core.List.{List, [], ◌∷◌, ◌++◌, append_assoc, append-nil}
use Rattle.text.specs.Ascii.{ascii}
use Rattle.text.specs.Decimal.{decimal}
use Rattle.model.specs.declared.Feature.{Feature}
use Rattle.model.specs.declared.Feature.TheVariants.{Loopback, InvertedRx, Autobaud, NoStopBit, FifoSize, Rs485, TxFlowControl}
use Rattle.model.specs.declared.Feature.TheVariants.{RxFlowControl, InvertedTx, Irda, TxBreak}
use Rattle.model.specs.declared.Unsupported.{Unsupported}
use Rattle.model.specs.declared.Unsupported.TheVariants.{UartOverflow, UartEmptyRead, UartClock, UartReceiveClock, UartFeature}
use Rattle.model.specs.declared.Notice.{Notice}

abbrev pub feature_text : Feature → List ℕ
feature_text Loopback = ascii "UartFeature(Loopback)"
feature_text InvertedRx = ascii "UartFeature(InvertedRx)"
feature_text Autobaud = ascii "UartFeature(Autobaud)"
feature_text NoStopBit = ascii "UartFeature(NoStopBit)"
feature_text FifoSize = ascii "UartFeature(FifoSize)"
feature_text Rs485 = ascii "UartFeature(Rs485)"
feature_text TxFlowControl = ascii "UartFeature(TxFlowControl)"
feature_text RxFlowControl = ascii "UartFeature(RxFlowControl)"
feature_text InvertedTx = ascii "UartFeature(InvertedTx)"
feature_text Irda = ascii "UartFeature(Irda)"
feature_text TxBreak = ascii "UartFeature(TxBreak)"

-- a number is an SCLK_SEL
abbrev pub notice_text : Unsupported → List ℕ
notice_text UartOverflow = ascii "UartOverflow"
notice_text UartEmptyRead = ascii "UartEmptyRead"
notice_text (UartClock sel) = ascii "UartClock(" ++ decimal sel ++ ascii ")"
notice_text (UartReceiveClock sel) = ascii "UartReceiveClock(" ++ decimal sel ++ ascii ")"
notice_text (UartFeature feature) = feature_text feature

-- each with a comma in front
unfoldable pub next_texts : List Notice → List ℕ
next_texts [] = []
next_texts (n ∷ ns) = ascii "," ++ notice_text n.what ++ next_texts ns

-- a comma between, or `-` for none
unfoldable pub notices_text : List Notice → List ℕ
notices_text [] = ascii "-"
notices_text (n ∷ ns) = notice_text n.what ++ next_texts ns

-- a notice and how often it came
abbrev pub count_text : Unsupported → ℕ → List ℕ
count_text what times = notice_text what ++ ascii "*" ++ decimal times

-- the notices of a row: how often the first came, and the second; there is no third
unfoldable pub counts_text : ℕ → ℕ → List Notice → List ℕ
counts_text first second [] = ascii "-"
counts_text first second (n ∷ []) = count_text n.what first
counts_text first second (n ∷ m ∷ ns) = count_text n.what first ++ ascii "," ++ count_text m.what second

-- ---- laws

-- one notice more, after a first one
next-snoc : (ns : List Notice) (n : Notice) → next_texts (ns ++ (n ∷ [])) ≡ next_texts ns ++ (ascii "," ++ notice_text n.what)
unfolding next_texts
next-snoc [] n = append-nil (ascii "," ++ notice_text n.what)
next-snoc (m ∷ ns) n =
    ap (λ (l : List ℕ). ascii "," ++ notice_text m.what ++ l) (next-snoc ns n)
    ∙ sym (append_assoc (ascii "," ++ notice_text m.what) (next_texts ns) (ascii "," ++ notice_text n.what))

-- those after the first, up to the i-th of a list
abbrev pub later_texts : ℕ → List Notice → List ℕ
later_texts i ns = next_texts (take (i - 1) (drop 1 ns))

module _ (ns : List Notice) (i : ℕ) (d : Notice) (later : 0 < i) (low : i < length ns) where
  -- one more
  pub later-on : later_texts i ns ++ (ascii "," ++ notice_text (get_or ns i d).what) ≡ later_texts (i + 1) ns
  later-on =
      let here : 1 + (i - 1) ≡ i = omega arith in
      let there : suc (i - 1) ≡ i + 1 - 1 = omega arith in
      let what : get_or (drop 1 ns) (i - 1) d ≡ get_or ns i d = get_or-drop 1 ns (i - 1) d ∙ ap (λ (k : ℕ). get_or ns k d) here in
      ap (λ (n : Notice). later_texts i ns ++ (ascii "," ++ notice_text n.what)) (sym what)
      ∙ sym (next-snoc (take (i - 1) (drop 1 ns)) (get_or (drop 1 ns) (i - 1) d))
      ∙ ap next_texts (sym (take-suc (drop 1 ns) (i - 1) d (omega (arith, length-drop 1 ns))))
      ∙ ap (λ (k : ℕ). next_texts (take k (drop 1 ns))) there

-- all of them
pub later-all : (ns : List Notice) (i : ℕ) (d : Notice) → 0 < i → 0 < length ns
    → notice_text (get_or ns 0 d).what ++ later_texts i ns ≡ notices_text (take i ns)
unfolding notices_text
later-all [] i d h k = absurd (omega arith)
later-all (m ∷ ns) zero d h k = absurd (omega arith)
later-all (m ∷ ns) (suc i) d h k =
    let e : suc i - 1 ≡ i = omega arith in
    ap (λ (j : ℕ). notice_text m.what ++ next_texts (take j ns)) e

-- one notice of a row, and two
module _ (first second : ℕ) (d : Notice) where
  pub one-count : (ns : List Notice) → 0 < length ns → count_text (get_or ns 0 d).what first ≡ counts_text first second (take 1 ns)
  unfolding counts_text
  one-count [] h = absurd (omega arith)
  one-count (n ∷ ns) h = refl

  pub two-counts : (ns : List Notice) → 1 < length ns
      → count_text (get_or ns 0 d).what first ++ ascii "," ++ count_text (get_or ns 1 d).what second ≡ counts_text first second (take 2 ns)
  unfolding counts_text
  two-counts [] h = absurd (omega arith)
  two-counts (n ∷ []) h = absurd (omega arith)
  two-counts (n ∷ m ∷ ns) h = refl
