-- `modes::stored_notices` meets its contract, by the places that give a notice and the list of those that give none. Assumes nothing.
use mathlib.Core.Path.{◌≡◌, refl, sym, ap, ◌∙◌}
use mathlib.Core.Bool.{not, decide}
use mathlib.Core.List.{[], ◌∷◌}
use lib.Dec.{eqb}
use borrow.Enum.Refused.{opened}
use Rattle.model.specs.Numbers.{choose}
use Rattle.model.specs.Registers.{note_if, stored_notes}
use Rattle.model.specs.declared.Feature.{Feature}
use Rattle.model.specs.declared.Unsupported.{Unsupported}
use Rattle.replies.specs.Notices.{noted}
use Rattle.registers.specs.Places.{register_at}
use Rattle.registers.specs.Storage.{held, held_at}
use Rattle.replies.specs.Modes.{notes_at}
use Rattle.registers.proofs.Tags.{place-keys}
use Rattle.replies.proofs.modes.stored_notices.Goals as goal

pub returns-in-Conf0 : goal.returns-in-Conf0
unfolding notes_at held register_at stored_notes note_if choose decide
returns-in-Conf0 c =
    c.conf0_notices.ensures ∙ ap (λ p. noted (notes_at (held_at p) c.args.value))
    (sym c.in-Conf0.is)

pub returns-in-Conf1 : goal.returns-in-Conf1
unfolding notes_at held register_at stored_notes note_if choose decide
returns-in-Conf1 c =
    c.refuse_if.ensures
    ∙ ap (λ t. noted (note_if t (Unsupported.UartFeature Feature.RxFlowControl) [])) c.rx_flow_en.ensures
    ∙ ap (λ p. noted (notes_at (held_at p) c.args.value))
    (sym c.in-Conf1.is)

pub returns-in-Rs485Conf : goal.returns-in-Rs485Conf
unfolding notes_at held register_at stored_notes note_if choose decide
returns-in-Rs485Conf c =
    c.refuse_if-in-Rs485Conf.ensures ∙ ap (λ p. noted (notes_at (held_at p) c.args.value))
    (sym c.in-Rs485Conf.is)

pub returns-in-MemConf : goal.returns-in-MemConf
unfolding notes_at held register_at stored_notes note_if choose decide
returns-in-MemConf c =
    c.refuse_if-in-MemConf.ensures
    ∙ ap (λ n. noted (note_if (not (eqb n 9)) (Unsupported.UartFeature Feature.FifoSize) [])) c.fifo_sizes.ensures
    ∙ ap (λ p. noted (notes_at (held_at p) c.args.value))
    (sym c.in-MemConf.is)

pub returns-in_default : goal.returns-in_default
unfolding notes_at held register_at stored_notes note_if choose decide
returns-in_default c =
    c.none.ensures
    ∙ place-keys (λ p. noted [] ≡ noted (notes_at (held_at p) c.args.value))
    0 (1 ∷ 2 ∷ 3 ∷ 4 ∷ 5 ∷ 6 ∷ 7 ∷ 10 ∷ 11 ∷ 13 ∷ 15 ∷ 16 ∷ []) c.args.place
    (refl, (refl, (refl, (refl, (refl, (refl, (refl, (refl, (refl, (refl, (refl, (refl, (refl, tt)))))))))))))
    (opened c.in_default.in_default-own.keys5)
