-- Numbers stored in an array. Assumes nothing.
use Rattle.std.specs.Prelude.{◌≡◌, refl, List, [], ◌∷◌, ◌++◌, ℕ, zero, suc, ◌+◌, ◌<◌, ◌≤◌, length, take, drop, set}
use Rattle.std.proofs.Common.{ap, ap₂, sym, ◌∙◌, append-nil, add-zero, add-one, arith, length-set, take-append-drop, drop-set-lt}
use Rattle.std.proofs.Common.{take-suc-set}
use Rattle.std.proofs.Math.Seq.{append_snoc}
use Rattle.std.proofs.lemmas.List.{take-set-le}

-- one after another from a place on
unfoldable pub stored_from : ℕ → List ℕ → List ℕ → List ℕ
stored_from i [] to = to
stored_from i (n ∷ ns) to = stored_from (i + 1) ns (set to i n)

abbrev pub stored : List ℕ → List ℕ → List ℕ
stored ns to = stored_from 0 ns to

-- ---- laws

-- numbers for which an array has room stand at its front, and all other elements are kept
stored_one : (ns to : List ℕ) (i n : ℕ) → i < length to
    → take (i + 1) (set to i n) ++ (ns ++ drop (i + 1 + length ns) (set to i n)) ≡ take i to ++ (n ∷ (ns ++ drop (i + suc (length ns)) to))
stored_one ns to i n h =
    let front : take (i + 1) (set to i n) ≡ take i to ++ (n ∷ []) = rw add-one (take-suc-set to i n h) in
    let far : i + 1 + length ns ≡ i + suc (length ns) = omega arith in
    let same = drop-set-lt (i + 1 + length ns) to i n (omega arith) in
    ap₂ (λ (l : List ℕ) (r : List ℕ). l ++ (ns ++ r)) front (same ∙ ap (λ (k : ℕ). drop k to) far)
    ∙ append_snoc (take i to) n (ns ++ drop (i + suc (length ns)) to)

stored_there : (ns to : List ℕ) (i : ℕ) → i + length ns ≤ length to → stored_from i ns to ≡ take i to ++ (ns ++ drop (i + length ns) to)
unfolding stored_from
stored_there [] to i h = rw add-zero (sym (take-append-drop i to))
stored_there (n ∷ ns) to i h =
    stored_there ns (set to i n) (i + 1) (simp length-set (omega arith)) ∙ stored_one ns to i n (omega arith)

pub stored-front : (ns to : List ℕ) → length ns ≤ length to → stored ns to ≡ ns ++ drop (length ns) to
stored-front ns to h =
    let none : 0 + length ns ≡ length ns = omega arith in
    stored_there ns to 0 (omega arith) ∙ ap (λ (k : ℕ). ns ++ drop k to) none

-- an array keeps its length
pub stored-length : (ns to : List ℕ) (i : ℕ) → length (stored_from i ns to) ≡ length to
unfolding stored_from
stored-length [] to i = refl
stored-length (n ∷ ns) to i = stored-length ns (set to i n) (i + 1) ∙ length-set to i n

-- so many of the numbers stand at the front, where the array has room for them; what stands before them is kept
stored-keeps : (ns to : List ℕ) (i j : ℕ) → j ≤ i → take j (stored_from i ns to) ≡ take j to
unfolding stored_from
stored-keeps [] to i j h = refl
stored-keeps (n ∷ ns) to i j h = stored-keeps ns (set to i n) (i + 1) j (omega arith) ∙ take-set-le j to i n h

stored-part : (ns to : List ℕ) (i k : ℕ) → i + k ≤ length to → k ≤ length ns → take (i + k) (stored_from i ns to) ≡ take i to ++ take k ns
unfolding stored_from
stored-part ns to i zero h e =
    let here : i + 0 ≡ i = omega arith in
    ap (λ (j : ℕ). take j (stored_from i ns to)) here ∙ stored-keeps ns to i i (omega arith) ∙ sym (append-nil (take i to))
stored-part [] to i (suc k) h e = absurd (omega arith)
stored-part (n ∷ ns) to i (suc k) h e =
    let there : i + suc k ≡ i + 1 + k = omega arith in
    let front : take (i + 1) (set to i n) ≡ take i to ++ (n ∷ []) = rw add-one (take-suc-set to i n (omega arith)) in
    ap (λ (j : ℕ). take j (stored_from (i + 1) ns (set to i n))) there
    ∙ stored-part ns (set to i n) (i + 1) k (simp length-set (omega arith)) (omega arith)
    ∙ ap (λ (l : List ℕ). l ++ take k ns) front
    ∙ append_snoc (take i to) n (take k ns)

pub stored-take : (ns to : List ℕ) (k : ℕ) → k ≤ length to → k ≤ length ns → take k (stored ns to) ≡ take k ns
stored-take ns to k h e =
    let none : 0 + k ≡ k = omega arith in
    ap (λ (j : ℕ). take j (stored ns to)) (sym none) ∙ stored-part ns to 0 k (omega arith) e
