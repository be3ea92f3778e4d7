-- `storage::holds` meets its contract, by its list of places. Assumes nothing.
use mathlib.Core.Path.{◌≡◌, refl}
use mathlib.Core.Bool.{true, false, decide}
use mathlib.Core.List.{[], ◌∷◌}
use borrow.Enum.Refused.{opened}
use Rattle.registers.specs.Places.{register_at}
use Rattle.registers.specs.Storage.{held, held_at, holds}
use Rattle.registers.proofs.Tags.{place-keys}
use Rattle.registers.proofs.storage.holds.Goals as goal

pub returns-in-IntEna : goal.returns-in-IntEna
unfolding holds held register_at decide
returns-in-IntEna c =
    place-keys (λ p. true ≡ holds (held_at p)) 3 (5 ∷ 8 ∷ 9 ∷ 10 ∷ 11 ∷ 12 ∷ 13 ∷ 14 ∷ []) c.args.place
    (refl, (refl, (refl, (refl, (refl, (refl, (refl, (refl, (refl, tt))))))))) (opened c.in-IntEna.in-IntEna-own.keys1)

pub returns-in_default : goal.returns-in_default
unfolding holds held register_at decide
returns-in_default c =
    place-keys (λ p. false ≡ holds (held_at p)) 0 (1 ∷ 2 ∷ 4 ∷ 6 ∷ 7 ∷ 15 ∷ 16 ∷ []) c.args.place
    (refl, (refl, (refl, (refl, (refl, (refl, (refl, (refl, tt)))))))) c.in_default.in_default-own.keys2
