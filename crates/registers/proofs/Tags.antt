-- An arm of a decision that lists several places. Assumes nothing.
use mathlib.Core.Path.{◌≡◌, refl, sym, subst}
use Prim.Native.Nat.{ℕ}
use mathlib.Core.List.{List, [], ◌∷◌}
use mathlib.Core.Logic.{inl, inr}
use lib.ListN.{get_or}
use types.Run.{OneOf}
use denote.Enum.Declared.{tag_of}
use Rattle.registers.specs.Places.{places}
use Rattle.registers.specs.declared.places.Place.{Place}
use Rattle.registers.specs.declared.places.Place.TheVariants.{Fifo, IntRaw, IntSt, IntEna, IntClr, Clkdiv, Status, FsmStatus, Conf0}
use Rattle.registers.specs.declared.places.Place.TheVariants.{Conf1, ClkConf}
use Rattle.registers.specs.declared.places.Place.TheVariants.{IdleConf, Rs485Conf, AtCmdChar, MemConf, MemRxStatus, Unknown}
use Rattle.registers.specs.contracts.places.Place.{the_type}

-- a fact of each key of an arm
abbrev pub Each : (ℕ → Type 0) → List ℕ → Type 0
Each P [] = Unit
Each P (k ∷ ks) = P k × Each P ks

each : (P : ℕ → Type 0) (k : ℕ) (ks : List ℕ) (x : ℕ) → Each P (k ∷ ks) → OneOf (k ∷ ks) x → P x
each P k [] x a e = subst P (sym e) a.0
each P k (l ∷ ks) x a (inl e) = subst P (sym e) a.0
each P k (l ∷ ks) x a (inr r) = each P l ks x a.1 r

-- a place's tag is its number in the order of set-up
tag-place : (p : Place) → get_or places (tag_of the_type p) Unknown ≡ p
tag-place Fifo = refl
tag-place IntRaw = refl
tag-place IntSt = refl
tag-place IntEna = refl
tag-place IntClr = refl
tag-place Clkdiv = refl
tag-place Status = refl
tag-place FsmStatus = refl
tag-place Conf0 = refl
tag-place Conf1 = refl
tag-place ClkConf = refl
tag-place IdleConf = refl
tag-place Rs485Conf = refl
tag-place AtCmdChar = refl
tag-place MemConf = refl
tag-place MemRxStatus = refl
tag-place Unknown = refl

pub place-keys : (P : Place → Type 0) (k : ℕ) (ks : List ℕ) (p : Place) → Each (λ n. P (get_or places n Unknown)) (k ∷ ks)
    → OneOf (k ∷ ks) (tag_of the_type p) → P p
place-keys P k ks p a h = subst P (tag-place p) (each (λ n. P (get_or places n Unknown)) k ks (tag_of the_type p) a h)
