-- The numbers of a line, one word each. Assumes nothing.
use Rattle.std.specs.Prelude.{◌≡◌, List, [], ◌∷◌, ltb, length, Result, Ok, Err}
use Rattle.std.proofs.Math.Path.{ap}
use Prim.Native.Nat.{ℕ, zero, suc, ◌+◌, ◌-◌, ◌<◌, ◌≤◌}
use native.Mathlib.Omega.{arith}
use Rattle.text.specs.Pick.{pick}
use Rattle.trace.specs.declared.names.Name.{Name}
use Rattle.trace.specs.Forms.{form_of}
use Rattle.trace.specs.declared.faults.Fault.{Fault}
use Rattle.trace.specs.declared.step.Step.{Step}
use Rattle.trace.specs.declared.number.Kind.{Kind}
use Rattle.trace.specs.declared.number.Kind.TheVariants.{Wide, Narrow}
use Rattle.trace.specs.One.{number_at}

-- numbers one after another: those before a fault, and how far they were read
pub record Numbers : Type 0 where
  pub values : List ℕ
  pub end : Result ℕ Fault

abbrev pub onward : Result Step Fault → (ℕ → Numbers) → Numbers
onward (Ok one) rest = record { values = one.number ∷ (rest one.to).values; end = (rest one.to).end }
onward (Err f) rest = record { values = []; end = Err f }

-- the first `wide` numbers have 64 bits
abbrev pub kind_at : ℕ → ℕ → Kind
kind_at wide i = pick (ltb i wide) Wide Narrow

-- from the `i`-th number on, of which so many are left
unfoldable pub numbers_from : List ℕ → ℕ → ℕ → ℕ → ℕ → Numbers
numbers_from s wide i zero at = record { values = []; end = Ok at }
numbers_from s wide i (suc left) at = onward (number_at s at (kind_at wide i)) (numbers_from s wide (i + 1) left)

-- the numbers of a call
abbrev pub numbers_at : List ℕ → ℕ → Name → Numbers
numbers_at s at name = numbers_from s (form_of name).wide 0 (form_of name).count at

-- ---- laws

-- from a number on
module _ (s : List ℕ) (wide count i at : ℕ) where
  pub from_on : i < count → numbers_from s wide i (count - i) at
      ≡ onward (number_at s at (kind_at wide i)) (numbers_from s wide (i + 1) (count - (i + 1)))
  unfolding numbers_from
  from_on h = let e : count - i ≡ suc (count - (i + 1)) = omega arith in ap (λ (k : ℕ). numbers_from s wide i k at) e

-- there are as many as the form has, or fewer
pub numbers-few : (s : List ℕ) (wide i left at : ℕ) → length (numbers_from s wide i left at).values ≤ left
unfolding numbers_from
numbers-few s wide i zero at = omega arith
numbers-few s wide i (suc left) at = by-step (number_at s at (kind_at wide i)) (numbers-few s wide (i + 1) left)
  where
    by-step : (one : Result Step Fault) → ((to : ℕ) → length (numbers_from s wide (i + 1) left to).values ≤ left)
        → length (onward one (numbers_from s wide (i + 1) left)).values ≤ suc left
    by-step (Ok one) rest = omega (arith, rest one.to)
    by-step (Err f) rest = omega arith
