-- Laws of `choose`: what it gives where the test is known, and what holds of it in both cases. Assumes nothing.
use Rattle.std.specs.Prelude.{◌≡◌, refl, Bool, true, false}
use Rattle.model.specs.Numbers.{choose}

pub choose-true {ℓ} : {X : Type ℓ} {t : Bool} (x y : X) → t ≡ true → choose t x y ≡ x
unfolding choose
choose-true x y e = rw e

pub choose-false {ℓ} : {X : Type ℓ} {t : Bool} (x y : X) → t ≡ false → choose t x y ≡ y
unfolding choose
choose-false x y e = rw e

-- a fact of both cases is a fact of the choice
pub choose-ind {ℓ κ} : {X : Type ℓ} (P : X → Type κ) (t : Bool) {x y : X} → (t ≡ true → P x) → (t ≡ false → P y) → P (choose t x y)
unfolding choose
choose-ind P true p q = p refl
choose-ind P false p q = q refl

-- a function of the choice is the choice of what it gives
pub choose-nat {ℓ κ} : {X : Type ℓ} {Y : Type κ} (g : X → Y) (t : Bool) {x y : X} {x' y' : Y} → x' ≡ g x → y' ≡ g y
    → choose t x' y' ≡ g (choose t x y)
unfolding choose
choose-nat g true p q = p
choose-nat g false p q = q

-- two functions that agree on both cases agree on the choice
pub choose-both {ℓ κ μ} : {X : Type ℓ} {Y : Type κ} {Z : Type μ} (h : X → Z) (g : Y → Z) (t : Bool) {x y : X} {x' y' : Y} → h x ≡ g x'
    → h y ≡ g y' → h (choose t x y) ≡ g (choose t x' y')
unfolding choose
choose-both h g true p q = p
choose-both h g false p q = q
