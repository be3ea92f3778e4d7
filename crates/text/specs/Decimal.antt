-- Decimal text. Assumes nothing.
use Rattle.std.specs.Prelude.{◌≡◌, refl, List, [], ◌∷◌, ◌++◌, ℕ, zero, suc, ◌+◌, ◌-◌, ◌/◌, ◌%◌, ◌^◌, ◌<◌, ◌≤◌, ltb, length, take, drop, set}
use Rattle.std.proofs.Common.{ap, sym, ◌∙◌, pow-suc, div-lt_iff_lt-mul, add-one, arith, lt-ltb, le-ltb, drop_at, length-take-le}
use Rattle.std.proofs.lemmas.List.{set_split}
use Rattle.std.proofs.Math.Seq.{append_snoc}
use Rattle.text.specs.Pick.{pick}
use Rattle.text.specs.Digits.{letter}

-- the digits of n, with at most `more` in front of the last
unfoldable pub decimal_up_to : ℕ → ℕ → List ℕ
decimal_up_to zero n = letter (n % 10) ∷ []
decimal_up_to (suc more) n = pick (ltb 9 n) (decimal_up_to more (n / 10) ++ (letter (n % 10) ∷ [])) (letter (n % 10) ∷ [])

-- the digits of a number of 64 bits, of which there are at most 20
abbrev pub decimal : ℕ → List ℕ
decimal n = decimal_up_to 19 n

-- ---- laws

-- one digit more in front of the last, and none
pub digits_more : (more n : ℕ) → 9 < n → decimal_up_to (suc more) n ≡ decimal_up_to more (n / 10) ++ (letter (n % 10) ∷ [])
unfolding decimal_up_to
digits_more more n h = rw (lt-ltb 9 n h)

pub digits_last : (more n : ℕ) → n ≤ 9 → decimal_up_to more n ≡ letter (n % 10) ∷ []
unfolding decimal_up_to
digits_last zero n h = refl
digits_last (suc more) n h = rw (le-ltb 9 n h)

-- a tenth has a digit less
pub tenth-low : (more n : ℕ) → n < 10 ^ suc more → n / 10 < 10 ^ more
tenth-low more n h = (div-lt_iff_lt-mul {k = 10} {x = n} {y = 10 ^ more} (omega arith)).1 (rw pow-suc at h)

-- two digits need a place in front
pub more_left : (more n : ℕ) → 9 < n → n < 10 ^ suc more → 0 < more
more_left zero n h k = absurd (omega arith)
more_left (suc more) n h k = omega arith

-- a digit stored in front of those that stand at the back
stored-drop : (to : List ℕ) (start d : ℕ) → start < length to → drop start (set to start d) ≡ d ∷ drop (start + 1) to
stored-drop to start d h =
    ap (drop start) (set_split to start d h)
    ∙ drop_at (take start to) (d ∷ drop (suc start) to) start (length-take-le start to (omega arith))
    ∙ ap (λ (k : ℕ). d ∷ drop k to) (sym (add-one start))

module _ (to : List ℕ) (start rest d : ℕ) (within : start < length to) (e : d ≡ letter (rest % 10)) where
  pub spelled-on : 9 < rest → 0 < start → decimal_up_to start rest ++ drop (start + 1) to
      ≡ decimal_up_to (start - 1) (rest / 10) ++ drop (start - 1 + 1) (set to start d)
  spelled-on h pos =
      let s : start ≡ suc (start - 1) = omega arith in
      let t : start ≡ start - 1 + 1 = omega arith in
      ap (λ (k : ℕ). decimal_up_to k rest ++ drop (start + 1) to) s
      ∙ ap (λ (l : List ℕ). l ++ drop (start + 1) to) (digits_more (start - 1) rest h)
      ∙ append_snoc (decimal_up_to (start - 1) (rest / 10)) (letter (rest % 10)) (drop (start + 1) to)
      ∙ ap (λ (k : ℕ). decimal_up_to (start - 1) (rest / 10) ++ (k ∷ drop (start + 1) to)) (sym e)
      ∙ ap (λ (l : List ℕ). decimal_up_to (start - 1) (rest / 10) ++ l)
      (sym (stored-drop to start d within) ∙ ap (λ (k : ℕ). drop k (set to start d)) t)

  pub spelled-end : rest ≤ 9 → drop start (set to start d) ≡ decimal_up_to start rest ++ drop (start + 1) to
  spelled-end h =
      stored-drop to start d within
      ∙ ap (λ (k : ℕ). k ∷ drop (start + 1) to) e
      ∙ ap (λ (l : List ℕ). l ++ drop (start + 1) to) (sym (digits_last start rest h))
