-- `store::write_place` meets its contract: INT_CLR clears, CONF0 resets first, and all others go to Storage. Assumes nothing.
use mathlib.Core.Path.{◌≡◌, refl}
use mathlib.Core.Bool.{false, decide}
use mathlib.Core.List.{[], ◌∷◌}
use borrow.Enum.Refused.{opened}
use Rattle.model.specs.Registers.{write_register}
use Rattle.registers.specs.Places.{register_at}
use Rattle.registers.specs.Storage.{held}
use Rattle.registers.proofs.Tags.{place-keys}
use Rattle.access.specs.Writes.{does_more, cleared-puts, conf0-puts, other-puts}
use Rattle.access.proofs.store.write_place.Goals as goal

pub returns-in-IntClr : goal.returns-in-IntClr
unfolding write_register register_at
returns-in-IntClr c = λ a k.
    rw c.in-IntClr.is (cleared-puts _ a k _ c.clear_interrupts.ensures)

pub returns-in-Conf0 : goal.returns-in-Conf0
unfolding held register_at
returns-in-Conf0 c = λ a k.
    let at = c.in-Conf0.is in
    rw at (conf0-puts _ a k _ c.reset_fifos-reset.ensures (rw at at c.store.ensures))

pub returns-in_default : goal.returns-in_default
unfolding does_more register_at decide
returns-in_default c = λ a k.
    let o = c.args in
    other-puts _ a k o.value (register_at o.place)
    (place-keys (λ p. does_more (register_at p) ≡ false) 0 (1 ∷ 2 ∷ 3 ∷ 5 ∷ 6 ∷ 7 ∷ 9 ∷ 10 ∷ 11 ∷ 12 ∷ 13 ∷ 14 ∷ 15 ∷ 16 ∷ []) o.place
    (refl, (refl, (refl, (refl, (refl, (refl, (refl, (refl, (refl, (refl, (refl, (refl, (refl, (refl, (refl, tt)))))))))))))))
    (opened c.in_default.in_default-own.keys3))
    c.store-in_default.ensures
