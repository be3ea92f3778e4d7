-- `load::word_at` meets its contract: the words that are made up, and Storage's. Assumes nothing.
use mathlib.Core.Path.{◌≡◌, refl, ◌∙◌}
use mathlib.Core.List.{[], ◌∷◌}
use borrow.Enum.Refused.{opened}
use Rattle.model.specs.Replies.{as_read}
use Rattle.registers.specs.Places.{register_at}
use Rattle.registers.specs.Storage.{held, held_at, loaded}
use Rattle.registers.proofs.Tags.{place-keys}
use Rattle.access.specs.Reads.{shown_of, word_at}
use Rattle.access.proofs.load.word_at.Goals as goal

pub returns-in-IntRaw : goal.returns-in-IntRaw
unfolding as_read word_at shown_of register_at
returns-in-IntRaw c = rw c.in-IntRaw.is

pub returns-in-IntSt : goal.returns-in-IntSt
unfolding as_read word_at shown_of register_at
returns-in-IntSt c = rw (c.in-IntSt.is, c.int_status.ensures)

pub returns-in-Status : goal.returns-in-Status
unfolding as_read word_at shown_of register_at
returns-in-Status c = rw (c.in-Status.is, c.status_word.ensures)

pub returns-in-FsmStatus : goal.returns-in-FsmStatus
unfolding as_read word_at shown_of register_at
returns-in-FsmStatus c = rw (c.in-FsmStatus.is, c.fsm_status.ensures)

pub returns-in-MemRxStatus : goal.returns-in-MemRxStatus
unfolding as_read word_at shown_of register_at
returns-in-MemRxStatus c = rw c.in-MemRxStatus.is

pub returns-in_default : goal.returns-in_default
unfolding word_at loaded held register_at
returns-in_default c =
    let o = c.args in
    c.read.ensures
    ∙ place-keys (λ p. as_read (loaded o.core.control.words (held_at p)) ≡ as_read (word_at o.core (register_at p))) 0
    (3 ∷ 4 ∷ 5 ∷ 8 ∷ 9 ∷ 10 ∷ 11 ∷ 12 ∷ 13 ∷ 14 ∷ 16 ∷ []) o.place
    (refl, (refl, (refl, (refl, (refl, (refl, (refl, (refl, (refl, (refl, (refl, (refl, tt))))))))))))
    (opened c.in_default.in_default-own.keys6)
