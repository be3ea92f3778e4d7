-- Exactly which frames are refused, said of the numbers in the two lists and of no test, and that the first frames of a longer list
-- decide. Assumes nothing.
use Rattle.std.specs.Prelude.{◌≡◌, ◌↔◌, Bool, Ok, List, [], ◌∷◌, ℕ, zero, suc, ◌<◌, ◌≤◌, ltb, eqb, length, get_or, take}
use Rattle.std.proofs.Math.Path.{refl}
use Rattle.std.proofs.Common.{sym, ap, ◌∙◌, true≢false, arith, length-take, take_all}
use Rattle.std.proofs.Math.Bool.{true, false}
use borrow.Author.Tests.{ltb-true, ltb-false, eqb-true, eqb-false}
use Rattle.figures.specs.declared.report.Figures.{Figures}
use Rattle.figures.specs.Lists.{choose}
use Rattle.figures.specs.Figures.{frames_of, reported, ordered, fit, LineFigures, refused, figures_of}

-- when frames are refused, by the places of their starts and ends
pub data Unfit (starts ends : List ℕ) : Type 0 where
  -- a frame ends before it starts
  ends-early : (i : ℕ) → i < length starts → i < length ends → get_or ends i 0 < get_or starts i 0 → Unfit starts ends
  -- a frame starts before the one before it ends
  starts-early : (i : ℕ) → suc i < length starts → suc i < length ends → get_or starts (suc i) 0 < get_or ends i 0 → Unfit starts ends
  -- the list is longer than 1,024
  too_many : 1024 < length starts → Unfit starts ends
  -- it is no list of frames: not as many starts as ends
  other-lengths : ¬ (length starts ≡ length ends) → Unfit starts ends

-- ---- the order of the frames

-- the same of frames after one that ended at `free`
data Clash (free : ℕ) (starts ends : List ℕ) : Type 0 where
  ends-first : (i : ℕ) → i < length starts → get_or ends i 0 < get_or starts i 0 → Clash free starts ends
  starts_first : (i : ℕ) → i < length starts → get_or starts i 0 < get_or (free ∷ ends) i 0 → Clash free starts ends

module _ (free s e : ℕ) (starts ends : List ℕ) where
  clash-later : Clash e starts ends → Clash free (s ∷ starts) (e ∷ ends)
  clash-later (ends-first i h k) = ends-first (suc i) (omega arith) k
  clash-later (starts_first i h k) = starts_first (suc i) (omega arith) k

  clash-left : free ≤ s → s ≤ e → Clash free (s ∷ starts) (e ∷ ends) → Clash e starts ends
  clash-left a b (ends-first zero h k) = absurd (omega arith)
  clash-left a b (ends-first (suc i) h k) = ends-first i (omega arith) k
  clash-left a b (starts_first zero h k) = absurd (omega arith)
  clash-left a b (starts_first (suc i) h k) = starts_first i (omega arith) k

  clash-step : (t u v : Bool) → ltb s free ≡ t → ltb e s ≡ u → v ≡ false ↔ Clash e starts ends
      → choose t false (choose u false v) ≡ false ↔ Clash free (s ∷ starts) (e ∷ ends)
  unfolding choose
  clash-step true u v a b later = (λ h. starts_first 0 (omega arith) (ltb-true s free a), λ c. refl)
  clash-step false true v a b later = (λ h. ends-first 0 (omega arith) (ltb-true e s b), λ c. refl)
  clash-step false false v a b later =
      (λ h. clash-later (later.0 h), λ c. later.1 (clash-left (ltb-false s free a) (ltb-false e s b) c))

no-clash : (free : ℕ) (ends : List ℕ) → true ≡ false ↔ Clash free [] ends
no-clash free ends = (λ h. absurd (true≢false h), none)
  where
    none : Clash free [] ends → true ≡ false
    none (ends-first i h k) = absurd (omega arith)
    none (starts_first i h k) = absurd (omega arith)

unordered-exactly : (free : ℕ) (starts ends : List ℕ) → length starts ≡ length ends
    → ordered free (frames_of starts ends) ≡ false ↔ Clash free starts ends
unfolding ordered frames_of
unordered-exactly free [] ends l = no-clash free ends
unordered-exactly free (s ∷ starts) [] l = absurd (omega arith)
unordered-exactly free (s ∷ starts) (e ∷ ends) l =
    clash-step free s e starts ends (ltb s free) (ltb e s) (ordered e (frames_of starts ends)) refl refl
    (unordered-exactly e starts ends (omega arith))

-- ---- all tests

-- the answer with what was tested: refused, or frames in order with the figures of all
pub data Result (starts ends : List ℕ) : LineFigures → Type 0 where
  refusal : Unfit starts ends → Result starts ends refused
  done : length starts ≡ length ends → length starts ≤ 1024 → ordered 0 (frames_of starts ends) ≡ true
      → Result starts ends (Ok (reported (frames_of starts ends)))

module _ (starts ends : List ℕ) where
  clash-unfit : length starts ≡ length ends → Clash 0 starts ends → Unfit starts ends
  clash-unfit l (ends-first i h k) = ends-early i h (omega arith) k
  clash-unfit l (starts_first zero h k) = absurd (omega arith)
  clash-unfit l (starts_first (suc i) h k) = starts-early i h (omega arith) k

  unfit-clash : length starts ≡ length ends → length starts ≤ 1024 → Unfit starts ends → Clash 0 starts ends
  unfit-clash l few (ends-early i h _ k) = ends-first i h k
  unfit-clash l few (starts-early i h _ k) = starts_first (suc i) h k
  unfit-clash l few (too_many h) = absurd (omega arith)
  unfit-clash l few (other-lengths n) = absurd (n l)

  tested : (t u v : Bool) → eqb (length starts) (length ends) ≡ t → ltb 1024 (length starts) ≡ u → ordered 0 (frames_of starts ends) ≡ v
      → Result starts ends (choose (choose t (choose u false v) false)
      (Ok (reported (frames_of starts ends))) refused)
  unfolding choose
  tested false u v a b o = refusal (other-lengths (eqb-false (length starts) (length ends) a))
  tested true true v a b o = refusal (too_many (ltb-true 1024 (length starts) b))
  tested true false true a b o = done (eqb-true (length starts) (length ends) a) (ltb-false 1024 (length starts) b) o
  tested true false false a b o =
      let l = eqb-true (length starts) (length ends) a in
      refusal (clash-unfit l ((unordered-exactly 0 starts ends l).0 o))

  pub result : Result starts ends (figures_of starts ends)
  unfolding figures_of fit
  result = tested (eqb (length starts) (length ends)) (ltb 1024 (length starts)) (ordered 0 (frames_of starts ends)) refl refl refl

  not-unfit : length starts ≡ length ends → length starts ≤ 1024 → ordered 0 (frames_of starts ends) ≡ true → ¬ Unfit starts ends
  not-unfit l few o x = true≢false (sym o ∙ (unordered-exactly 0 starts ends l).1 (unfit-clash l few x))

  -- refused exactly where the frames are unfit
  pub refused-exactly : figures_of starts ends ≡ refused ↔ Unfit starts ends
  refused-exactly = go result
    where
      go : {r : LineFigures} → Result starts ends r → r ≡ refused ↔ Unfit starts ends
      go (refusal x) = (λ h. x, λ x. refl)
      go (done l few o) = (λ h. let z : ◌≡◌ {A = ℕ} 0 1 = cc in absurd (omega arith), λ x. absurd (not-unfit l few o x))

  -- figures exactly where they are not, and they are those of the frames
  pub done-exactly : (f : Figures)
      → figures_of starts ends ≡ Ok f ↔ (¬ Unfit starts ends) × (f ≡ reported (frames_of starts ends))
  done-exactly f = go result
    where
      go : {r : LineFigures} → Result starts ends r
          → r ≡ Ok f ↔ (¬ Unfit starts ends) × (f ≡ reported (frames_of starts ends))
      go (refusal x) = (λ h. let z : ◌≡◌ {A = ℕ} 0 1 = cc in absurd (omega arith), λ d. absurd (d.0 x))
      go (done l few o) = (λ h. (not-unfit l few o, cc), λ d. ap Ok (sym d.1))

-- ---- a longer list

-- any first so many frames decide, above 1,024: a caller that holds 1,025 places needs no more
pub first-decide : (n : ℕ) → 1024 < n → (starts ends : List ℕ) → figures_of (take n starts) (take n ends) ≡ figures_of starts ends
first-decide n many starts ends = by_tests (ltb 1024 (length starts)) (ltb 1024 (length ends)) refl refl
  where
    both : Unfit (take n starts) (take n ends) → Unfit starts ends → figures_of (take n starts) (take n ends) ≡ figures_of starts ends
    both x y = (refused-exactly (take n starts) (take n ends)).1 x ∙ sym ((refused-exactly starts ends).1 y)

    by_tests : (t u : Bool) → ltb 1024 (length starts) ≡ t → ltb 1024 (length ends) ≡ u
        → figures_of (take n starts) (take n ends) ≡ figures_of starts ends
    by_tests true u a b =
        let h = ltb-true 1024 (length starts) a in
        both (too_many (omega (arith, length-take n starts))) (too_many h)
    by_tests false true a b =
        let h = ltb-false 1024 (length starts) a in
        let k = ltb-true 1024 (length ends) b in
        both (other-lengths (omega (arith, length-take n starts, length-take n ends))) (other-lengths (omega arith))
    by_tests false false a b =
        let h = ltb-false 1024 (length starts) a in
        let k = ltb-false 1024 (length ends) b in
        rw (take_all n starts (omega arith), take_all n ends (omega arith))
