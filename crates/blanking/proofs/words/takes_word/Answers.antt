-- `words::takes_word` meets its contract, by its lists of places. Assumes nothing.
use mathlib.Core.Path.{◌≡◌, refl}
use mathlib.Core.Bool.{true, false}
use mathlib.Core.List.{[], ◌∷◌}
use Rattle.model.specs.Unused.{takes_word}
use Rattle.registers.specs.Places.{register_at}
use Rattle.registers.proofs.Tags.{place-keys}
use Rattle.blanking.proofs.words.takes_word.Goals as goal

pub returns-in-IntEna : goal.returns-in-IntEna
unfolding register_at
returns-in-IntEna c =
    place-keys (λ p. true ≡ takes_word (register_at p)) 3 (4 ∷ 5 ∷ 8 ∷ 9 ∷ []) c.args.place
    (refl, (refl, (refl, (refl, (refl, tt)))))
    c.in-IntEna.in-IntEna-own.keys1

pub returns-in-ClkConf : goal.returns-in-ClkConf
unfolding register_at
returns-in-ClkConf c =
    place-keys (λ p. true ≡ takes_word (register_at p)) 10 (11 ∷ 12 ∷ 13 ∷ 14 ∷ []) c.args.place
    (refl, (refl, (refl, (refl, (refl, tt))))) c.in-ClkConf.in-ClkConf-own.keys2

pub returns-in_default : goal.returns-in_default
unfolding register_at
returns-in_default c =
    place-keys (λ p. false ≡ takes_word (register_at p)) 0 (1 ∷ 2 ∷ 6 ∷ 7 ∷ 15 ∷ 16 ∷ []) c.args.place
    (refl, (refl, (refl, (refl, (refl, (refl, (refl, tt))))))) c.in_default.in_default-own.keys3
