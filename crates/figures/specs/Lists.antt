-- Sums, minima and maxima of lists of numbers, and where a number first stands: what the figures are written with. Assumes nothing.
use Rattle.std.specs.Prelude.{Bool, true, false, List, [], ◌∷◌, ℕ, suc, ◌+◌, min, max, eqb}

-- the first where the test passes, and else the second
unfoldable pub choose : {A : Type 0} → Bool → A → A → A
choose true a b = a
choose false a b = b

unfoldable pub total : List ℕ → ℕ
total [] = 0
total (x ∷ xs) = x + total xs

-- the least and the greatest of them; 0 where there is none
unfoldable pub least : List ℕ → ℕ
least [] = 0
least (x ∷ []) = x
least (x ∷ y ∷ ys) = min x (least (y ∷ ys))

unfoldable pub greatest : List ℕ → ℕ
greatest [] = 0
greatest (x ∷ xs) = max x (greatest xs)

-- the place, from 0, where a number first stands
unfoldable pub first_place : ℕ → List ℕ → ℕ
first_place n [] = 0
first_place n (x ∷ xs) = choose (eqb x n) 0 (suc (first_place n xs))
