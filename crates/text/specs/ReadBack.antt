-- What is put is read back: bytes as hexadecimal digits, and decimal numbers. Assumes nothing.
use Rattle.std.specs.Prelude.{◌≡◌, refl, Bool, true, false, List, [], ◌∷◌, ◌++◌, ℕ, zero, suc, ◌+◌, ◌*◌, ◌/◌, ◌%◌, ◌^◌, ◌<◌, ◌≤◌, ltb}
use Rattle.std.specs.Prelude.{length, get_or, Some}
use Rattle.std.proofs.Common.{ap, ◌∙◌, inr, ⊎_elim, arith, lt-ltb, le-ltb, length-append}
use Rattle.text.specs.Pick.{pick, side}
use Rattle.text.specs.Digits.{digit_value, letter}
use Rattle.text.specs.Numbers.{all_digits, value_after, number_of}
use Rattle.text.specs.NumberForm.{form-number, all-each}
use Rattle.text.specs.Hexes.{pair_value, spelled}
use Rattle.text.specs.HexText.{hex_pairs}
use Rattle.text.specs.Decimal.{decimal_up_to, decimal, digits_more, digits_last, tenth-low}

-- a digit
low_digit : (d : ℕ) → d < 10 → digit_value (letter d) ≡ d
unfolding digit_value letter
low_digit d h = rw (lt-ltb d 10 h, le-ltb (48 + d) 48 (omega arith), lt-ltb (48 + d) 58 (omega arith)) (omega arith)

high_digit : (d : ℕ) → 10 ≤ d → d < 16 → digit_value (letter d) ≡ d
unfolding digit_value letter
high_digit d h k =
    rw (
      le-ltb d 10 h,
      le-ltb (87 + d) 48 (omega arith),
      le-ltb (87 + d) 58 (omega arith),
      le-ltb (87 + d) 65 (omega arith),
      le-ltb (87 + d) 71 (omega arith),
      le-ltb (87 + d) 97 (omega arith),
      lt-ltb (87 + d) 103 (omega arith),
    )
    (omega arith)

digit-back : (d : ℕ) → d < 16 → digit_value (letter d) ≡ d
digit-back d h = ⊎_elim (λ k. low_digit d k) (λ k. high_digit d k h) (side d 10)

-- a byte
pair-back : (b : ℕ) → b < 256 → pair_value (letter (b / 16)) (letter (b % 16)) ≡ b
unfolding pair_value
pair-back b h =
    rw (
      digit-back (b / 16) (omega arith),
      digit-back (b % 16) (omega arith),
      le-ltb 15 (b / 16) (omega arith),
      le-ltb 15 (b % 16) (omega arith),
    )
    (omega arith)

-- bytes
pub bytes_back : (s : List ℕ) → ((i : ℕ) → i < length s → get_or s i 0 < 256) → spelled (hex_pairs s) ≡ s
unfolding spelled hex_pairs
bytes_back [] h = refl
bytes_back (b ∷ s) h =
    let low : b < 256 = h 0 (omega arith) in
    rw (pair-back b low, le-ltb 255 b (omega arith)) (ap (λ (l : List ℕ). b ∷ l) (bytes_back s (λ i l. h (suc i) (omega arith))))

-- ---- decimal

value-snoc : (base value c : ℕ) (s : List ℕ) → value_after base value (s ++ (c ∷ [])) ≡ value_after base value s * base + digit_value c
unfolding value_after
value-snoc base value c [] = refl
value-snoc base value c (d ∷ s) = value-snoc base (value * base + digit_value d) c s

digits-snoc : (base c : ℕ) (s : List ℕ) → digit_value c < base → all_digits base s ≡ true → all_digits base (s ++ (c ∷ [])) ≡ true
unfolding all_digits
digits-snoc base c [] h e = rw (lt-ltb (digit_value c) base h)
digits-snoc base c (d ∷ s) h e = by-test (ltb (digit_value d) base) e (digits-snoc base c s h)
  where
    by-test : (t : Bool) → pick t (all_digits base s) false ≡ true → (all_digits base s ≡ true → all_digits base (s ++ (c ∷ [])) ≡ true)
        → pick t (all_digits base (s ++ (c ∷ []))) false ≡ true
    by-test true e rest = rest e
    by-test false e rest = e

-- the three facts of a numeral
record Back (n : ℕ) (s : List ℕ) : Type 0 where
  some : 0 < length s
  all : all_digits 10 s ≡ true
  value : value_after 10 0 s ≡ n

one-back : (n : ℕ) → n ≤ 9 → Back n (letter (n % 10) ∷ [])
unfolding all_digits value_after
one-back n h =
    let d : digit_value (letter (n % 10)) ≡ n % 10 = digit-back (n % 10) (omega arith) in
    record { some = omega arith; all = rw (d, lt-ltb (n % 10) 10 (omega arith)); value = rw d (omega arith) }

more-back : (n : ℕ) (s : List ℕ) → Back (n / 10) s → Back n (s ++ (letter (n % 10) ∷ []))
more-back n s b =
    let d : digit_value (letter (n % 10)) ≡ n % 10 = digit-back (n % 10) (omega arith) in
    record {
      some = simp length-append (omega arith);
      all = digits-snoc 10 (letter (n % 10)) s (omega arith) b.all;
      value = value-snoc 10 0 (letter (n % 10)) s ∙ rw (b.value, d) (omega arith);
    }

decimal-back : (more n : ℕ) → n < 10 ^ suc more → Back n (decimal_up_to more n)
decimal-back zero n h = rw (digits_last zero n (omega arith)) (one-back n (omega arith))
decimal-back (suc more) n h =
    ⊎_elim
    (λ (k : 9 < n). rw (digits_more more n k) (more-back n (decimal_up_to more (n / 10))
    (decimal-back more (n / 10) (tenth-low (suc more) n h))))
    (λ (k : n ≤ 9). rw (digits_last (suc more) n k) (one-back n k))
    (side 9 n)

-- a number of 64 bits
pub number-back : (limit n : ℕ) → n < 2 ^ 64 → n ≤ limit → number_of limit (decimal n) ≡ Some n
number-back limit n h low =
    let b : Back n (decimal n) = decimal-back 19 n (omega arith) in
    form-number limit (decimal n) n
    record {
      base = 10;
      digits = decimal n;
      form = inr (refl, refl);
      some = b.some;
      each = all-each 10 (decimal n) b.all;
      value = b.value;
      low = low;
    }
