-- `load::read_place` meets its contract: a mistimed reception is told of where the firmware looks, and then the byte or the word is
-- given. Assumes nothing.
use mathlib.Core.Path.{◌≡◌, refl, ap}
use mathlib.Core.Bool.{false, decide}
use mathlib.Core.List.{[], ◌∷◌}
use Prim.Native.Nat.{◌≤◌}
use borrow.Enum.Refused.{opened}
use Rattle.model.specs.Map.{is_fifo}
use Rattle.model.proofs.Laws.Choose.{choose-ind}
use Rattle.queue.specs.Cursors.{Held}
use Rattle.device.specs.declared.Core.{Core}
use Rattle.registers.specs.Places.{register_at}
use Rattle.registers.proofs.Tags.{place-keys}
use Rattle.access.specs.Reads.{reads-fifo, reads_word}
use Rattle.access.proofs.load.read_place.Goals as goal

pub pop-requires : goal.pop-requires
pop-requires c =
    let pre = c.requires in
    (rw c.forget_mistimed-seen.ensures (choose-ind (λ (x : Core). Held 128 x.rx) _ (λ _. pre.1) (λ _. pre.1)), pre.2)

pub word_at-reply-requires : goal.word_at-reply-requires
word_at-reply-requires c =
    let pre = c.requires in
    rw c.forget_mistimed-seen.ensures
    (choose-ind (λ (x : Core). (x.flight.count ≤ 129) × (x.rx.count ≤ 128)) _ (λ _. (pre.0.few, pre.1.few))
    (λ _. (pre.0.few, pre.1.few)))

pub returns-in-Fifo : goal.returns-in-Fifo
unfolding register_at
returns-in-Fifo c = λ a e k.
    let at = c in
    reads-fifo _ _ a k c.looks-looks.ensures c.mistimed_at.ensures
    c.receive_clock_notices-notices.ensures c.forget_mistimed-seen.ensures (ap register_at c.in-Fifo.is) e
    c.pop.ensures

pub returns-in_default : goal.returns-in_default
unfolding register_at decide
returns-in_default c = λ a e k.
    let at = c in
    let place = c.args.place in
    reads_word _ _ a k c.looks-looks.ensures c.mistimed_at.ensures
    c.receive_clock_notices-notices.ensures c.forget_mistimed-seen.ensures
    (place-keys (λ p. is_fifo (register_at p) ≡ false) 1 (2 ∷ 3 ∷ 4 ∷ 5 ∷ 6 ∷ 7 ∷ 8 ∷ 9 ∷ 10 ∷ 11 ∷ 12 ∷ 13 ∷ 14 ∷ 15 ∷ 16 ∷ []) place
    (refl, (refl, (refl, (refl, (refl, (refl, (refl, (refl, (refl, (refl, (refl, (refl, (refl, (refl, (refl, (refl, tt))))))))))))))))
    (opened c.in_default.in_default-own.keys2))
    c.word_at-reply.ensures
