-- The list of a function's first values. Assumes nothing.
use Rattle.std.specs.Prelude.{◌≡◌, ◌≢◌, length, take, drop, get_or, set}
use Rattle.std.proofs.Math.Path.{refl, ap, ap₂}
use Rattle.std.proofs.Common.{sym, ◌∙◌, suc-add, zero-add, zero-lt-suc, le_of_suc-le-suc, not-suc-le-zero, arith, length-drop, ext_get_or}
use Rattle.std.proofs.Common.{get_or-take, get_or-drop, length-take-le}
use mathlib.Core.List.{List, [], ◌∷◌, ◌++◌, map}
use Prim.Native.Nat.{ℕ, zero, suc, ◌+◌, ◌<◌, ◌≤◌, suc-le-suc}
use Rattle.std.proofs.Math.Nat.{suc-ne-zero, suc_inj}

-- f 0, f 1, .. : `n` of them
unfoldable pub listed : {A : Type 0} → (ℕ → A) → ℕ → List A
listed f zero = []
listed f (suc n) = f 0 ∷ listed (λ i. f (suc i)) n

module _ {A : Type 0} where
  -- there are n
  pub length-listed : (f : ℕ → A) (n : ℕ) → length (listed f n) ≡ n
  unfolding listed
  length-listed f zero = refl
  length-listed f (suc n) = ap suc (length-listed (λ i. f (suc i)) n)

  -- it reads the first n values and no other
  pub listed_same : (f g : ℕ → A) (n : ℕ) → ((i : ℕ) → i < n → f i ≡ g i) → listed f n ≡ listed g n
  unfolding listed
  listed_same f g zero h = refl
  listed_same f g (suc n) h =
      ap₂ (λ (a : A) (l : List A). a ∷ l) (h 0 (zero-lt-suc n))
      (listed_same (λ i. f (suc i)) (λ i. g (suc i)) n (λ i b. h (suc i) (suc-le-suc b)))

  -- one more
  pub listed_suc : (f : ℕ → A) (n : ℕ) → listed f (suc n) ≡ listed f n ++ (f n ∷ [])
  unfolding listed
  listed_suc f zero = refl
  listed_suc f (suc n) = ap (λ (l : List A). f 0 ∷ l) (listed_suc (λ i. f (suc i)) n)

  -- several more
  pub listed-add : (f : ℕ → A) (n m : ℕ) → listed f (n + m) ≡ listed f n ++ listed (λ i. f (n + i)) m
  unfolding listed
  listed-add f zero m = rw (zero-add m) (listed_same f (λ i. f (zero + i)) m (λ i b. ap f (sym (zero-add i))))
  listed-add f (suc n) m =
      rw (suc-add n m)
      (ap (λ (l : List A). f 0 ∷ l)
      (listed-add (λ i. f (suc i)) n m
      ∙ ap (λ (l : List A). listed (λ i. f (suc i)) n ++ l)
      (listed_same (λ i. f (suc (n + i))) (λ i. f (suc n + i)) m (λ i b. ap f (sym (suc-add n i))))))

  -- the i-th is the value at i
  pub get_d-listed : (f : ℕ → A) (n i : ℕ) (d : A) → i < n → get_or (listed f n) i d ≡ f i
  unfolding listed
  get_d-listed f zero i d h = absurd (not-suc-le-zero h)
  get_d-listed f (suc n) zero d h = refl
  get_d-listed f (suc n) (suc i) d h = get_d-listed (λ i. f (suc i)) n i d (le_of_suc-le-suc h)

  -- fewer
  pub take-listed : (f : ℕ → A) (n k : ℕ) → k ≤ n → take k (listed f n) ≡ listed f k
  unfolding listed
  take-listed f n zero h = refl
  take-listed f zero (suc k) h = absurd (not-suc-le-zero h)
  take-listed f (suc n) (suc k) h = ap (λ (l : List A). f 0 ∷ l) (take-listed (λ i. f (suc i)) n k (le_of_suc-le-suc h))

  -- another value at one place
  pub listed-set : (f g : ℕ → A) (n k : ℕ) (v : A) → k < n → g k ≡ v → ((i : ℕ) → i < n → i ≢ k → g i ≡ f i)
      → listed g n ≡ set (listed f n) k v
  unfolding listed
  listed-set f g zero k v low new old = absurd (not-suc-le-zero low)
  listed-set f g (suc n) zero v low new old =
      ap₂ (λ (a : A) (l : List A). a ∷ l) new (listed_same (λ i. g (suc i)) (λ i. f (suc i)) n
      (λ i b. old (suc i) (suc-le-suc b) (suc-ne-zero i)))
  listed-set f g (suc n) (suc k) v low new old =
      ap₂ (λ (a : A) (l : List A). a ∷ l) (old 0 (zero-lt-suc n) (λ e. suc-ne-zero k (sym e)))
      (listed-set (λ i. f (suc i)) (λ i. g (suc i)) n k v (le_of_suc-le-suc low) new
      (λ i b other. old (suc i) (suc-le-suc b) (λ e. other (suc_inj e))))

  -- a part of an array
  pub listed-part : (s : List A) (d : A) (from n : ℕ) → from + n ≤ length s → listed (λ i. get_or s (from + i) d) n ≡ take n (drop from s)
  listed-part s d from n fits =
      let l : length (take n (drop from s)) ≡ n = length-take-le n (drop from s) (rw (length-drop from s) (omega arith)) in
      let m : length (listed (λ i. get_or s (from + i) d) n) ≡ n = length-listed (λ i. get_or s (from + i) d) n in
      ext_get_or d (listed (λ i. get_or s (from + i) d) n) (take n (drop from s)) (m ∙ sym l)
      (λ i b.
      let c : i < n = omega arith in
      get_d-listed (λ i. get_or s (from + i) d) n i d c ∙ sym (get_or-take n (drop from s) i d c ∙ get_or-drop from s i d))

-- what a function makes of each
pub map-listed : {A B : Type 0} (h : A → B) (f : ℕ → A) (n : ℕ) → map h (listed f n) ≡ listed (λ i. h (f i)) n
unfolding listed
map-listed h f zero = refl
map-listed {A} {B} h f (suc n) = ap (λ (l : List B). h (f 0) ∷ l) (map-listed h (λ i. f (suc i)) n)
