-- Whether two lists hold the same bytes, as a test. Assumes nothing.
use Rattle.std.specs.Prelude.{◌≡◌, refl, Bool, true, false, ◌&&◌, List, [], ◌∷◌, ℕ, suc, ◌+◌, ◌<◌, ◌≤◌, eqb, length, get_or, drop}
use Rattle.std.proofs.Common.{ap, ap₂, add-one}
use borrow.Author.Tests.{eq-eqb, ne_eqb, eqb-true}
use Rattle.std.proofs.Math.ListN.{drop_of_length-le}
use Rattle.std.proofs.Math.Seq.{drop-cons}
use lib.Pointwise.{pointwise}
use Rattle.text.specs.Pick.{pick}

unfoldable pub same_bytes : List ℕ → List ℕ → Bool
same_bytes [] [] = true
same_bytes [] (y ∷ b) = false
same_bytes (x ∷ a) [] = false
same_bytes (x ∷ a) (y ∷ b) = pick (eqb x y) (same_bytes a b) false

-- ---- laws

-- the test passes for equal lists, and for no others
pub same_refl : (a : List ℕ) → same_bytes a a ≡ true
unfolding same_bytes
same_refl [] = refl
same_refl (x ∷ a) = rw (eq-eqb x x refl) (same_refl a)

pub same-equal : (a b : List ℕ) → same_bytes a b ≡ true → a ≡ b
unfolding same_bytes
same-equal [] [] e = refl
same-equal [] (y ∷ b) e = cc
same-equal (x ∷ a) [] e = cc
same-equal (x ∷ a) (y ∷ b) e = by-test (eqb x y) refl e (same-equal a b)
  where
    by-test : (t : Bool) → eqb x y ≡ t → pick t (same_bytes a b) false ≡ true → (same_bytes a b ≡ true → a ≡ b) → x ∷ a ≡ y ∷ b
    by-test true q e rest = ap₂ (λ (h : ℕ) (l : List ℕ). h ∷ l) (eqb-true x y q) (rest e)
    by-test false q e rest = cc

-- lists of two lengths
pub same-lengths : (a b : List ℕ) → (length a ≡ length b → ⊥) → same_bytes a b ≡ false
unfolding same_bytes
same-lengths [] [] h = absurd (h refl)
same-lengths [] (y ∷ b) h = refl
same-lengths (x ∷ a) [] h = refl
same-lengths (x ∷ a) (y ∷ b) h = by-test (eqb x y) (same-lengths a b (λ e. h (ap suc e)))
  where
    by-test : (t : Bool) → same_bytes a b ≡ false → pick t (same_bytes a b) false ≡ false
    by-test true r = r
    by-test false r = refl

-- from a place on: one byte more, two that differ, and the end
module _ (a b : List ℕ) (i : ℕ) where
  pub same-on : i < length a → i < length b → get_or a i 0 ≡ get_or b i 0
      → same_bytes (drop i a) (drop i b) ≡ same_bytes (drop (i + 1) a) (drop (i + 1) b)
  unfolding same_bytes
  same-on h k e = rw (add-one, drop-cons a i 0 h, drop-cons b i 0 k, eq-eqb (get_or a i 0) (get_or b i 0) e)

  pub same-differ : i < length a → i < length b → (get_or a i 0 ≡ get_or b i 0 → ⊥) → same_bytes (drop i a) (drop i b) ≡ false
  unfolding same_bytes
  same-differ h k e = rw (drop-cons a i 0 h, drop-cons b i 0 k, ne_eqb (get_or a i 0) (get_or b i 0) e)

  pub same_end : length a ≤ i → length b ≤ i → same_bytes (drop i a) (drop i b) ≡ true
  unfolding same_bytes
  same_end h k = rw (drop_of_length-le a h, drop_of_length-le b k)

-- what the test of two slices answers
pub same_pointwise : (a b : List ℕ) → pointwise eqb a b ≡ same_bytes a b
unfolding same_bytes
same_pointwise [] [] = refl
same_pointwise [] (y ∷ b) = refl
same_pointwise (x ∷ a) [] = refl
same_pointwise (x ∷ a) (y ∷ b) = by-test (eqb x y) (same_pointwise a b)
  where
    by-test : (t : Bool) → pointwise eqb a b ≡ same_bytes a b → t && pointwise eqb a b ≡ pick t (same_bytes a b) false
    by-test true e = e
    by-test false e = refl
