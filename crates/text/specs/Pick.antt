-- A choice by a test, and that a test on numbers has two ways. Assumes nothing.
use Rattle.std.specs.Prelude.{◌≡◌, refl, Bool, true, false, ◌⊎◌, ℕ, ◌<◌, ◌≤◌, ltb}
use Rattle.std.proofs.Common.{inl, inr, ltb-true, ltb-false}

abbrev pub pick : {A : Type 0} → Bool → A → A → A
pick true a b = a
pick false a b = b

pub decided : (t : Bool) → (t ≡ true) ⊎ (t ≡ false)
decided true = inl refl
decided false = inr refl

pub side : (a b : ℕ) → (a < b) ⊎ (b ≤ a)
side a b = by-test (ltb a b) refl
  where
    by-test : (t : Bool) → ltb a b ≡ t → (a < b) ⊎ (b ≤ a)
    by-test true e = inl (ltb-true a b e)
    by-test false e = inr (ltb-false a b e)
