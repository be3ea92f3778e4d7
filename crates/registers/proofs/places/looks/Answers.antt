-- `places::looks` meets its contract, by its two lists of places. Assumes nothing.
use mathlib.Core.Path.{◌≡◌, refl}
use mathlib.Core.Bool.{true, false, decide}
use mathlib.Core.List.{[], ◌∷◌}
use borrow.Enum.Refused.{opened}
use Rattle.model.specs.Registers.{looks}
use Rattle.registers.specs.Places.{register_at}
use Rattle.registers.proofs.Tags.{place-keys}
use Rattle.registers.proofs.places.looks.Goals as goal

pub returns-in-Fifo : goal.returns-in-Fifo
unfolding looks register_at decide
returns-in-Fifo c =
    place-keys (λ p. true ≡ looks (register_at p)) 0 (1 ∷ 2 ∷ 6 ∷ []) c.args.place (refl, (refl, (refl, (refl, tt))))
    c.in-Fifo.in-Fifo-own.keys1

pub returns-in_default : goal.returns-in_default
unfolding looks register_at decide
returns-in_default c =
    place-keys (λ p. false ≡ looks (register_at p)) 3 (4 ∷ 5 ∷ 7 ∷ 8 ∷ 9 ∷ 10 ∷ 11 ∷ 12 ∷ 13 ∷ 14 ∷ 15 ∷ 16 ∷ []) c.args.place
    (refl, (refl, (refl, (refl, (refl, (refl, (refl, (refl, (refl, (refl, (refl, (refl, (refl, tt)))))))))))))
    (opened c.in_default.in_default-own.keys2)
