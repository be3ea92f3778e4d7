-- What number a word is. Assumes nothing.
use Rattle.std.proofs.Math.Path.{◌≡◌, refl}
use Rattle.std.proofs.Common.{◌∙◌, le-div_iff_mul-le, div-lt_iff_lt-mul, add-one, drop_of_length-le, drop-cons}
use Rattle.std.specs.Prelude.{Bool, ℕ, suc, ◌+◌, ◌*◌, ◌/◌, ◌<◌, ◌≤◌, ltb, eqb, length, get_or, take, drop, Option, Some, None}
use Rattle.std.proofs.Math.Bool.{true, false, ◌&&◌}
use lib.Pointwise.{pointwise}
use mathlib.Core.List.{List, [], ◌∷◌}
use Rattle.std.proofs.Math.Nat.{mul-le-mul_left}
use native.Mathlib.Omega.{arith}
use borrow.Author.Tests.{lt-ltb, le-ltb, le-leb, lt-leb, leb-true}
use Rattle.std.proofs.Math.Dec.{leb}
use Rattle.text.specs.Pick.{pick}
use Rattle.text.specs.Digits.{digit_value}

-- each byte is a digit of the base
unfoldable pub all_digits : ℕ → List ℕ → Bool
all_digits base [] = true
all_digits base (c ∷ s) = pick (ltb (digit_value c) base) (all_digits base s) false

-- the value of digits that follow a number
unfoldable pub value_after : ℕ → ℕ → List ℕ → ℕ
value_after base value [] = value
value_after base value (c ∷ s) = value_after base (value * base + digit_value c) s

-- a value where it is at most the limit
unfoldable pub at_most : ℕ → ℕ → Option ℕ
at_most limit value = pick (leb value limit) (Some value) None

-- the number that digits after another make
unfoldable pub number_after : ℕ → ℕ → ℕ → List ℕ → Option ℕ
number_after base limit value s = pick (all_digits base s) (at_most limit (value_after base value s)) None

-- one digit or more
unfoldable pub number_in : ℕ → ℕ → List ℕ → Option ℕ
number_in base limit [] = None
number_in base limit (c ∷ s) = number_after base limit 0 (c ∷ s)

-- `0` is 48, `x` is 120
unfoldable pub begins0x : List ℕ → Bool
begins0x [] = false
begins0x (a ∷ []) = false
begins0x (a ∷ b ∷ s) = pick (eqb a 48) (eqb b 120) false

-- `0x` and hexadecimal digits, or decimal digits
unfoldable pub number_of : ℕ → List ℕ → Option ℕ
number_of limit s = pick (begins0x s) (number_in 16 limit (drop 2 s)) (number_in 10 limit s)

-- the same of 32 bits
abbrev pub limit32 : ℕ
limit32 = 4294967295

abbrev pub number32_of : List ℕ → Option ℕ
number32_of s = number_of limit32 s

-- ---- laws

-- one digit or more, and none
pub some_number : (base limit : ℕ) (s : List ℕ) → 0 < length s → number_in base limit s ≡ number_after base limit 0 s
unfolding number_in
some_number base limit [] h = absurd (omega arith)
some_number base limit (c ∷ s) h = refl

pub no-digits : (base limit : ℕ) (s : List ℕ) → length s ≡ 0 → number_in base limit s ≡ None
unfolding number_in
no-digits base limit [] h = refl
no-digits base limit (c ∷ s) h = absurd (omega arith)

nested : (t u : Bool) (a b : Option ℕ) → pick (pick t u false) a b ≡ pick t (pick u a b) b
nested true u a b = refl
nested false u a b = refl

either : (t : Bool) → pick {A = Option ℕ} t None None ≡ None
either true = refl
either false = refl

module _ (base limit : ℕ) where
  -- more digits make no smaller number
  value_grows : 0 < base → (value : ℕ) (s : List ℕ) → value ≤ value_after base value s
  unfolding value_after
  value_grows pos value [] = omega arith
  value_grows pos value (c ∷ s) =
      let m : value * 1 ≤ value * base = mul-le-mul_left value pos in
      omega (arith, value_grows pos (value * base + digit_value c) s)

  pub after-opened : (value : ℕ) (s : List ℕ)
      → number_after base limit value s ≡ pick (all_digits base s)
      (pick (leb (value_after base value s) limit) (Some (value_after base value s)) None) None
  unfolding number_after at_most
  after-opened value s = refl

  after-cons : (value c : ℕ) (s : List ℕ) → number_after base limit value (c ∷ s)
      ≡ pick (ltb (digit_value c) base) (number_after base limit (value * base + digit_value c) s) None
  unfolding number_after all_digits value_after
  after-cons value c s =
      nested (ltb (digit_value c) base) (all_digits base s) (at_most limit (value_after base (value * base + digit_value c) s))
      None

  above : (value : ℕ) (s : List ℕ) → 0 < base → limit < value → number_after base limit value s ≡ None
  unfolding number_after at_most
  above value s pos h =
      rw (lt-leb (value_after base value s) limit (omega (arith, value_grows pos value s))) (either (all_digits base s))

  -- from a place on: a digit more, a byte that is no digit, a number above the limit, and the end
  module _ (s : List ℕ) (i value d : ℕ) (h : i < length s) (e : d ≡ digit_value (get_or s i 0)) where
    step : number_after base limit value (drop i s)
        ≡ pick (ltb d base) (number_after base limit (value * base + d) (drop (i + 1) s)) None
    step = rw (add-one, drop-cons s i 0 h, e) (after-cons value (get_or s i 0) (drop (suc i) s))

    pub digit-on : d < base → number_after base limit value (drop i s) ≡ number_after base limit (value * base + d) (drop (i + 1) s)
    digit-on k = step ∙ rw (lt-ltb d base k)

    pub no_digit : base ≤ d → number_after base limit value (drop i s) ≡ None
    no_digit k = step ∙ rw (le-ltb d base k)

    pub too_large : 0 < base → limit < value * base + d → number_after base limit value (drop i s) ≡ None
    too_large pos k = step ∙ rw (above (value * base + d) (drop (i + 1) s) pos k) (either (ltb d base))

  pub number-end : (s : List ℕ) (i value : ℕ) → length s ≤ i → value ≤ limit → number_after base limit value (drop i s) ≡ Some value
  unfolding number_after at_most all_digits value_after
  number-end s i value h k = rw (drop_of_length-le s h, le-leb value limit k)

-- the test before the product, which cannot wrap
pub shifted-low : (base limit value : ℕ) → 0 < base → value ≤ limit / base → value * base ≤ limit
shifted-low base limit value pos h = (le-div_iff_mul-le pos).0 h

pub shifted-high : (base limit value d : ℕ) → 0 < base → limit / base < value → limit < value * base + d
shifted-high base limit value d pos h = let m : limit < value * base = (div-lt_iff_lt-mul pos).0 h in omega arith

-- a word of less than two bytes does not begin with `0x`
pub prefix-short : (s : List ℕ) → length s < 2 → begins0x s ≡ false
unfolding begins0x
prefix-short [] h = refl
prefix-short (a ∷ []) h = refl
prefix-short (a ∷ b ∷ s) h = absurd (omega arith)

-- a word begins with `0x` where the two bytes are its first two
pub prefix-front : (s : List ℕ) → begins0x s ≡ pointwise eqb (take 2 s) (48 ∷ 120 ∷ [])
unfolding begins0x
prefix-front [] = refl
prefix-front (a ∷ []) = by-test (eqb a 48)
  where
    by-test : (t : Bool) → false ≡ t && false
    by-test true = refl
    by-test false = refl
prefix-front (a ∷ b ∷ s) = by-test (eqb a 48) (eqb b 120)
  where
    by-test : (t u : Bool) → pick t u false ≡ t && (u && true)
    by-test true true = refl
    by-test true false = refl
    by-test false u = refl

-- a number that was read is at most the limit
module _ (limit n : ℕ) where
  at-most-low : (value : ℕ) → at_most limit value ≡ Some n → n ≤ limit
  unfolding at_most
  at-most-low value e = by-test (leb value limit) refl e
    where
      by-test : (t : Bool) → leb value limit ≡ t → pick t (Some value) None ≡ Some n → n ≤ limit
      by-test true q e = let v : value ≡ n = cc in omega (arith, leb-true value limit q)
      by-test false q e = absurd (let z : ◌≡◌ {A = ℕ} 0 1 = cc in omega arith)

  in-low : (base : ℕ) (s : List ℕ) → number_in base limit s ≡ Some n → n ≤ limit
  unfolding number_in number_after
  in-low base [] e = absurd (let z : ◌≡◌ {A = ℕ} 0 1 = cc in omega arith)
  in-low base (c ∷ s) e = by-test (all_digits base (c ∷ s)) e
    where
      by-test : (t : Bool) → pick t (at_most limit (value_after base 0 (c ∷ s))) None ≡ Some n → n ≤ limit
      by-test true e = at-most-low (value_after base 0 (c ∷ s)) e
      by-test false e = absurd (let z : ◌≡◌ {A = ℕ} 0 1 = cc in omega arith)

  pub number-low : (s : List ℕ) → number_of limit s ≡ Some n → n ≤ limit
  unfolding number_of
  number-low s e = by-test (begins0x s) e
    where
      by-test : (t : Bool) → pick t (number_in 16 limit (drop 2 s)) (number_in 10 limit s) ≡ Some n → n ≤ limit
      by-test true e = in-low 16 (drop 2 s) e
      by-test false e = in-low 10 s e
