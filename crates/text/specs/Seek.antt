-- The next place at which a test on bytes passes. Assumes nothing.
use Rattle.std.specs.Prelude.{◌≡◌, Bool, cond, not, min, eqb, get_or, take, drop}
use Rattle.std.specs.List.{prefix_len}
use Rattle.std.proofs.Math.Path.{refl, ap}
use Rattle.std.proofs.Common.{sym, ◌∙◌, ⊎_elim, add-zero, le_of_suc-le-suc, add-one, drop_of_length-le, get_or-drop, take_all}
use Rattle.std.proofs.Math.Bool.{true, false}
use mathlib.Core.List.{List, [], ◌∷◌}
use Prim.Native.Nat.{ℕ, zero, suc, ◌+◌, ◌-◌, ◌<◌, ◌≤◌}
use native.Mathlib.Omega.{arith}
use Rattle.std.proofs.Math.ListN.{length, length-drop}
use Rattle.std.proofs.Math.Seq.{drop-cons}
use Rattle.text.specs.Pick.{pick, decided, side}

abbrev pub is_byte : ℕ → ℕ → Bool
is_byte byte b = eqb b byte

abbrev pub is_other : ℕ → ℕ → Bool
is_other byte b = not (eqb b byte)

-- how many bytes stand before the first that passes; all of them where none does
unfoldable pub before : (ℕ → Bool) → List ℕ → ℕ
before stop [] = 0
before stop (b ∷ s) = pick (stop b) 0 (suc (before stop s))

-- the place of the first byte from `at` on that passes; the end where none does
unfoldable pub seek : (ℕ → Bool) → List ℕ → ℕ → ℕ
seek stop s at = at + before stop (drop at s)

-- ---- laws

-- what stands before the first that passes is the front on which another test passes
pub before-prefix : (stop test : ℕ → Bool) → ((b : ℕ) → stop b ≡ not (test b)) → (s : List ℕ) → before stop s ≡ prefix_len test s
unfolding before
before-prefix stop test e [] = refl
before-prefix stop test e (b ∷ s) = rw (e b) (by-test (test b) (before-prefix stop test e s))
  where
    by-test : (t : Bool) → before stop s ≡ prefix_len test s → pick (not t) 0 (suc (before stop s)) ≡ cond t (1 + prefix_len test s) 0
    by-test true r = omega arith
    by-test false r = refl

-- past the end there is nothing left
pub drop-within : (s : List ℕ) (at : ℕ) → drop (min at (length s)) s ≡ drop at s
drop-within s at =
    ⊎_elim
    (λ (h : at < length s). let e : min at (length s) ≡ at = omega arith in ap (λ (k : ℕ). drop k s) e)
    (λ (h : length s ≤ at). drop_of_length-le s {i = min at (length s)} (omega arith) ∙ sym (drop_of_length-le s h))
    (side at (length s))

pub rest-within : (s : List ℕ) (at m : ℕ) → m ≡ min at (length s) → take (length s - m) (drop m s) ≡ drop at s
rest-within s at m e =
    take_all (length s - m) (drop m s) (omega (arith, length-drop m s)) ∙ ap (λ (k : ℕ). drop k s) e ∙ drop-within s at

module _ (stop : ℕ → Bool) where
  pub before-stop : (b : ℕ) (s : List ℕ) → stop b ≡ true → before stop (b ∷ s) ≡ 0
  unfolding before
  before-stop b s e = rw e

  pub before_on : (b : ℕ) (s : List ℕ) → stop b ≡ false → before stop (b ∷ s) ≡ suc (before stop s)
  unfolding before
  before_on b s e = rw e

  before-most : (s : List ℕ) → before stop s ≤ length s
  unfolding before
  before-most [] = omega arith
  before-most (b ∷ s) = by-test (stop b) (before-most s)
    where
      by-test : (t : Bool) → before stop s ≤ length s → pick t 0 (suc (before stop s)) ≤ suc (length s)
      by-test true h = omega arith
      by-test false h = omega arith

  -- from a place within the text, the next place is within it
  pub seek-within : (s : List ℕ) (at : ℕ) → at ≤ length s → seek stop s at ≤ length s
  unfolding seek
  seek-within s at h = omega (arith, before-most (drop at s), length-drop at s)

  pub seek-after : (s : List ℕ) (at : ℕ) → at ≤ seek stop s at
  unfolding seek
  seek-after s at = omega arith

  -- a byte that passes, a byte that does not, and the end
  pub seek-here : (s : List ℕ) (at : ℕ) → at < length s → stop (get_or s at 0) ≡ true → seek stop s at ≡ at
  unfolding seek before
  seek-here s at h e = rw (drop-cons s at 0 h, e, add-zero)

  pub seek-on : (s : List ℕ) (at : ℕ) → at < length s → stop (get_or s at 0) ≡ false → seek stop s at ≡ seek stop s (at + 1)
  unfolding seek before
  seek-on s at h e = rw (add-one, drop-cons s at 0 h, e) (omega arith)

  pub seek-end : (s : List ℕ) (at : ℕ) → length s ≤ at → seek stop s at ≡ at
  unfolding seek before
  seek-end s at h = rw (drop_of_length-le s h, add-zero)

  -- what stands before the next place does not pass, and what stands at it does
  before-passed : (s : List ℕ) (k : ℕ) → k < before stop s → stop (get_or s k 0) ≡ false
  before-passed [] k h = absurd (omega (arith, before-most []))
  before-passed (b ∷ s) k h =
      ⊎_elim
      (λ (e : stop b ≡ true). absurd (omega (arith, before-stop b s e)))
      (λ (e : stop b ≡ false). passed k (omega (arith, before_on b s e)) e (before-passed s))
      (decided (stop b))
    where
      passed : (k : ℕ) → k < suc (before stop s) → stop b ≡ false → ((j : ℕ) → j < before stop s → stop (get_or s j 0) ≡ false)
          → stop (get_or (b ∷ s) k 0) ≡ false
      passed zero l e rest = e
      passed (suc j) l e rest = rest j (le_of_suc-le-suc l)

  before-found : (s : List ℕ) → before stop s < length s → stop (get_or s (before stop s) 0) ≡ true
  before-found [] h = absurd (omega arith)
  before-found (b ∷ s) h =
      ⊎_elim
      (λ (e : stop b ≡ true). rw (before-stop b s e) e)
      (λ (e : stop b ≡ false). rw (before_on b s e) (before-found s (omega (arith, before_on b s e))))
      (decided (stop b))

  pub seek-passed : (s : List ℕ) (at k : ℕ) → at ≤ k → k < seek stop s at → stop (get_or s k 0) ≡ false
  unfolding seek
  seek-passed s at k h l =
      let e : at + (k - at) ≡ k = omega arith in
      ap (λ (j : ℕ). stop (get_or s j 0)) (sym e)
      ∙ ap stop (sym (get_or-drop at s (k - at) 0))
      ∙ before-passed (drop at s) (k - at) (omega arith)

  pub seek_found : (s : List ℕ) (at : ℕ) → seek stop s at < length s → stop (get_or s (seek stop s at) 0) ≡ true
  unfolding seek
  seek_found s at h =
      ap stop (sym (get_or-drop at s (before stop (drop at s)) 0)) ∙ before-found (drop at s) (omega (arith, length-drop at s))
