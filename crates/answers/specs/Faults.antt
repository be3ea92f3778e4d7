-- What is answered to a line that is no call. Assumes nothing.
use Rattle.std.specs.Prelude.{◌≡◌, List, [], ◌∷◌, ◌++◌, map, ℕ, suc, ◌+◌, ◌-◌, ◌<◌, ◌≤◌, ltb, length, take, drop, get_or}
use Rattle.std.proofs.Common.{ap, sym, ◌∙◌, append-nil, arith, lt-ltb, le-ltb, length-take, length-drop, take_all, take-suc, take-take}
use Rattle.std.proofs.Common.{get_or-drop}
use Rattle.std.proofs.lemmas.List.{map-append}
use Rattle.text.specs.Ascii.{ascii}
use Rattle.text.specs.Pick.{pick}
use Rattle.trace.specs.declared.faults.Reason.{Reason}
use Rattle.trace.specs.declared.faults.Reason.TheVariants.{UnknownName, MissingWord, ExtraWord, NoNumber, NoNumber32, NoBit, NoLength}
use Rattle.trace.specs.declared.faults.Reason.TheVariants.{NoBytes, NoUart}
use Rattle.trace.specs.declared.faults.Fault.{Fault}

abbrev pub reason_text : Reason → List ℕ
reason_text UnknownName = ascii "no call has the name"
reason_text MissingWord = ascii "a word is missing after"
reason_text ExtraWord = ascii "an extra word"
reason_text NoNumber = ascii "no number of 64 bits"
reason_text NoNumber32 = ascii "no number of 32 bits"
reason_text NoBit = ascii "neither 0 nor 1"
reason_text NoLength = ascii "no length of at most 8192"
reason_text NoBytes = ascii "no even number of hexadecimal digits"
reason_text NoUart = ascii "no UART is set up for"

-- a byte that does not print, below `!` or above `~`, is shown as `?`
unfoldable pub shown : ℕ → ℕ
shown b = pick (ltb b 33) 63 (pick (ltb 126 b) 63 b)

-- of a word at most 40 bytes are shown
unfoldable pub shown_text : List ℕ → List ℕ
shown_text word = map shown (take 40 word) ++ pick (ltb 40 (length word)) (ascii "..") []

-- the reason, and the word at fault
abbrev pub fault_text : List ℕ → Fault → List ℕ
fault_text s f =
    ascii "error: "
    ++ reason_text f.reason
    ++ ascii ": `"
    ++ shown_text (take (f.end - f.start) (drop f.start s))
    ++ ascii "`\n"

abbrev pub long_text : List ℕ
long_text = ascii "error: the line is longer than 65536 bytes\n"

-- ---- laws

-- a word that is shown whole, and one of which more stands there
shown-whole : (word : List ℕ) → length word ≤ 40 → map shown word ≡ shown_text word
unfolding shown_text
shown-whole word h =
    ap (map shown) (sym (take_all 40 word h)) ∙ sym (append-nil (map shown (take 40 word))) ∙ rw (le-ltb 40 (length word) h)

shown-part : (word : List ℕ) → 40 < length word → map shown (take 40 word) ++ ascii ".." ≡ shown_text word
unfolding shown_text
shown-part word h = rw (lt-ltb 40 (length word) h)

-- the bytes of a text from a start up to a place, of a word that ends at `end`
module _ (s : List ℕ) (start i : ℕ) (after : start ≤ i) where
  -- none yet, and one more
  pub shown-on : i < length s
      → map shown (take (i - start) (drop start s)) ++ (shown (get_or s i 0) ∷ []) ≡ map shown (take (i + 1 - start) (drop start s))
  shown-on h =
      let here : start + (i - start) ≡ i = omega arith in
      let there : suc (i - start) ≡ i + 1 - start = omega arith in
      let byte : get_or (drop start s) (i - start) 0 ≡ get_or s i 0 = get_or-drop start s (i - start) 0
      ∙ ap (λ (k : ℕ). get_or s k 0) here in
      ap (λ (b : ℕ). map shown (take (i - start) (drop start s)) ++ (shown b ∷ [])) (sym byte)
      ∙ sym (map-append shown (take (i - start) (drop start s)) (get_or (drop start s) (i - start) 0 ∷ []))
      ∙ ap (map shown) (sym (take-suc (drop start s) (i - start) 0 (omega (arith, length-drop start s))))
      ∙ ap (λ (k : ℕ). map shown (take k (drop start s))) there

  module _ (end : ℕ) (upto : i - start ≤ end - start) (few : i - start ≤ 40) where
    ended : take (i - start) (drop start s) ≡ take (end - start) (drop start s)
        → map shown (take (i - start) (drop start s)) ≡ shown_text (take (end - start) (drop start s))
    ended e =
        ap (map shown) e
        ∙ shown-whole (take (end - start) (drop start s)) (omega (arith, ap length e, length-take (i - start) (drop start s)))

    -- the word ends there, the text ends there, and there is more of the word
    pub shown-end : end ≤ i → map shown (take (i - start) (drop start s)) ≡ shown_text (take (end - start) (drop start s))
    shown-end h =
        let same : i - start ≡ end - start = omega arith in
        ended (ap (λ (k : ℕ). take k (drop start s)) same)

    pub shown-last : length s ≤ i → map shown (take (i - start) (drop start s)) ≡ shown_text (take (end - start) (drop start s))
    shown-last h =
        let len = length-drop start s in
        ended (take_all (i - start) (drop start s) (omega (arith, len))
        ∙ sym (take_all (end - start) (drop start s) (omega (arith, len))))

    pub shown-cut : 40 ≤ i - start → i < end → i < length s
        → map shown (take (i - start) (drop start s)) ++ ascii ".." ≡ shown_text (take (end - start) (drop start s))
    shown-cut h k l =
        let forty : i - start ≡ 40 = omega arith in
        let long : 40 < length (take (end - start) (drop start s)) =
        omega (arith, length-take (end - start) (drop start s), length-drop start s) in
        ap (λ (n : ℕ). map shown (take n (drop start s)) ++ ascii "..") forty
        ∙ ap (λ (l : List ℕ). map shown l ++ ascii "..") (sym (take-take 40 (end - start) (drop start s) (omega arith)))
        ∙ shown-part (take (end - start) (drop start s)) long
