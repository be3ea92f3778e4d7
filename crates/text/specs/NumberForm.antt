-- When a word is read as a number: exactly when it is in the form and its value is at most the limit. Assumes nothing.
use Rattle.std.specs.Prelude.{◌≡◌, refl, Bool, true, false, List, [], ◌∷◌, ◌⊎◌, ℕ, zero, suc, ◌<◌, ◌≤◌, ltb, leb, eqb, length, get_or, drop}
use Rattle.std.specs.Prelude.{Some, None}
use Rattle.std.proofs.Common.{ap₂, sym, ◌∙◌, inl, inr, ⊎_elim, le_of_suc-le-suc, arith}
use borrow.Author.Tests.{lt-ltb, ltb-true, le-leb, leb-true, eqb-true}
use Rattle.text.specs.Pick.{pick, decided, side}
use Rattle.text.specs.Digits.{digit_value}
use Rattle.text.specs.Numbers.{all_digits, value_after, at_most, number_after, number_in, begins0x, number_of, some_number, no-digits}
use Rattle.text.specs.Numbers.{after-opened}

-- each byte is a digit of the base
abbrev pub EachDigit : ℕ → List ℕ → Type 0
EachDigit base s = (i : ℕ) → i < length s → digit_value (get_or s i 0) < base

-- `0x` (48 and 120) and hexadecimal digits, or decimal digits
abbrev pub Form : ℕ → List ℕ → List ℕ → Type 0
Form base digits s = ((base ≡ 16) × (s ≡ 48 ∷ 120 ∷ digits)) ⊎ ((base ≡ 10) × (s ≡ digits))

-- a word is the number n, which is at most the limit
pub record IsNumber (limit : ℕ) (s : List ℕ) (n : ℕ) : Type 0 where
  pub base : ℕ
  pub digits : List ℕ
  pub form : Form base digits s
  pub some : 0 < length digits
  pub each : EachDigit base digits
  pub value : value_after base 0 digits ≡ n
  pub low : n ≤ limit

-- ---- the test for digits

each_all : (base : ℕ) (s : List ℕ) → EachDigit base s → all_digits base s ≡ true
unfolding all_digits
each_all base [] h = refl
each_all base (c ∷ s) h = rw (lt-ltb (digit_value c) base (h 0 (omega arith))) (each_all base s (λ i l. h (suc i) (omega arith)))

pub all-each : (base : ℕ) (s : List ℕ) → all_digits base s ≡ true → EachDigit base s
unfolding all_digits
all-each base [] e = λ i l. absurd (omega arith)
all-each base (c ∷ s) e =
    ⊎_elim
    (λ (t : ltb (digit_value c) base ≡ true). from (ltb-true (digit_value c) base t) (all-each base s (rw t at e)))
    (λ (t : ltb (digit_value c) base ≡ false). absurd (let u : false ≡ true = rw t at e in let z : ◌≡◌ {A = ℕ} 0 1 = cc in omega arith))
    (decided (ltb (digit_value c) base))
  where
    from : digit_value c < base → EachDigit base s → EachDigit base (c ∷ s)
    from h rest zero l = h
    from h rest (suc i) l = rest i (le_of_suc-le-suc l)

-- ---- digits of one base

module _ (base limit n : ℕ) (s : List ℕ) where
  pub read-digits : 0 < length s → EachDigit base s → value_after base 0 s ≡ n → n ≤ limit → number_in base limit s ≡ Some n
  unfolding number_after at_most
  read-digits some each value low =
      some_number base limit s some ∙ rw (each_all base s each, value, le-leb n limit low)

  pub digits-read : number_in base limit s ≡ Some n → (0 < length s) × EachDigit base s × (value_after base 0 s ≡ n) × (n ≤ limit)
  digits-read e =
      ⊎_elim
      (λ (h : 0 < length s). within h (all_digits base s) refl (leb (value_after base 0 s) limit) refl (sym (opened h) ∙ e))
      (λ (h : length s ≤ 0). absurd (let q : None ≡ Some n = sym (no-digits base limit s (omega arith))
      ∙ e in let z : ◌≡◌ {A = ℕ} 0 1 = cc in omega arith))
      (side 0 (length s))
    where
      opened : 0 < length s → number_in base limit s
          ≡ pick (all_digits base s) (pick (leb (value_after base 0 s) limit) (Some (value_after base 0 s)) None)
          None
      opened h = some_number base limit s h ∙ after-opened base limit 0 s

      within : 0 < length s → (t : Bool) → all_digits base s ≡ t → (u : Bool) → leb (value_after base 0 s) limit ≡ u
          → pick t (pick u (Some (value_after base 0 s)) None) None ≡ Some n
          → (0 < length s) × EachDigit base s × (value_after base 0 s ≡ n) × (n ≤ limit)
      within h true q true r e =
          let v : value_after base 0 s ≡ n = cc in
          (h, all-each base s q, v, omega (arith, leb-true (value_after base 0 s) limit r))
      within h true q false r e = absurd (let z : ◌≡◌ {A = ℕ} 0 1 = cc in omega arith)
      within h false q u r e = absurd (let z : ◌≡◌ {A = ℕ} 0 1 = cc in omega arith)

-- ---- both directions

-- `0x` in front, and that a word of decimal digits has none
prefix-rest : (s : List ℕ) → begins0x s ≡ true → s ≡ 48 ∷ 120 ∷ drop 2 s
unfolding begins0x
prefix-rest [] e = absurd (let z : ◌≡◌ {A = ℕ} 0 1 = cc in omega arith)
prefix-rest (a ∷ []) e = absurd (let z : ◌≡◌ {A = ℕ} 0 1 = cc in omega arith)
prefix-rest (a ∷ b ∷ s) e =
    ⊎_elim
    (λ (t : eqb a 48 ≡ true). ap₂ (λ (x y : ℕ). x ∷ y ∷ s) (eqb-true a 48 t) (eqb-true b 120 (rw t at e)))
    (λ (t : eqb a 48 ≡ false). absurd (let u : false ≡ true = rw t at e in let z : ◌≡◌ {A = ℕ} 0 1 = cc in omega arith))
    (decided (eqb a 48))

no-prefix : (s : List ℕ) → EachDigit 10 s → begins0x s ≡ false
unfolding begins0x digit_value
no-prefix [] each = refl
no-prefix (a ∷ []) each = refl
no-prefix (a ∷ b ∷ s) each =
    ⊎_elim
    (λ (t : eqb b 120 ≡ true). absurd (let d : digit_value 120 < 10 = rw (eqb-true b 120 t) at (each 1 (omega arith)) in omega arith))
    (λ (t : eqb b 120 ≡ false). rw t (neither (eqb a 48)))
    (decided (eqb b 120))
  where
    neither : (t : Bool) → pick t false false ≡ false
    neither true = refl
    neither false = refl

hex-number : (limit n : ℕ) (digits : List ℕ) → number_in 16 limit digits ≡ Some n
    → number_of limit (48 ∷ 120 ∷ digits) ≡ Some n
unfolding number_of begins0x
hex-number limit n digits e = e

dec-number : (limit n : ℕ) (s : List ℕ) → begins0x s ≡ false → number_in 10 limit s ≡ Some n → number_of limit s ≡ Some n
unfolding number_of
dec-number limit n s t e = rw t e

pub number-form : (limit : ℕ) (s : List ℕ) (n : ℕ) → number_of limit s ≡ Some n → IsNumber limit s n
unfolding number_of
number-form limit s n e =
    ⊎_elim
    (λ (t : begins0x s ≡ true).
    let r = digits-read 16 limit n (drop 2 s) (rw t at e) in
    record { base = 16; digits = drop 2 s; form = inl (refl, prefix-rest s t); some = r.0; each = r.1; value = r.2; low = r.3 })
    (λ (t : begins0x s ≡ false).
    let r = digits-read 10 limit n s (rw t at e) in
    record { base = 10; digits = s; form = inr (refl, refl); some = r.0; each = r.1; value = r.2; low = r.3 })
    (decided (begins0x s))

pub form-number : (limit : ℕ) (s : List ℕ) (n : ℕ) → IsNumber limit s n → number_of limit s ≡ Some n
form-number limit s n h = by_form h.base h.digits h.form h.some h.each h.value h.low
  where
    by_form : (base : ℕ) (digits : List ℕ) → Form base digits s → 0 < length digits
        → EachDigit base digits → value_after base 0 digits ≡ n → n ≤ limit → number_of limit s ≡ Some n
    by_form base digits (inl f) some each value low =
        rw f.1 (hex-number limit n digits (read-digits 16 limit n digits some (rw f.0 at each) (rw f.0 at value) low))
    by_form base digits (inr f) some each value low =
        let tens : EachDigit 10 digits = rw f.0 at each in
        rw f.1 (dec-number limit n digits (no-prefix digits tens) (read-digits 10 limit n digits some tens (rw f.0 at value) low))
