-- `storage::with_word` meets its contract, place by place. Assumes nothing.
use mathlib.Core.Path.{◌≡◌, refl}
use mathlib.Core.List.{[], ◌∷◌}
use mathlib.Core.Bool.{decide}
use Rattle.model.specs.Numbers.{choose}
use Rattle.model.specs.Map.{value_of, words_by, replaced}
use Rattle.registers.specs.Places.{register_at}
use Rattle.registers.specs.Storage.{held, held_at, written}
use Rattle.registers.proofs.Tags.{place-keys}
use Rattle.registers.proofs.storage.with_word.Goals as goal

pub returns-in-IntEna : goal.returns-in-IntEna
unfolding written held register_at replaced words_by value_of choose decide
returns-in-IntEna c = rw c.in-IntEna.is

pub returns-in-Clkdiv : goal.returns-in-Clkdiv
unfolding written held register_at replaced words_by value_of choose decide
returns-in-Clkdiv c = rw c.in-Clkdiv.is

pub returns-in-Conf0 : goal.returns-in-Conf0
unfolding written held register_at replaced words_by value_of choose decide
returns-in-Conf0 c = rw c.in-Conf0.is

pub returns-in-Conf1 : goal.returns-in-Conf1
unfolding written held register_at replaced words_by value_of choose decide
returns-in-Conf1 c = rw c.in-Conf1.is

pub returns-in-ClkConf : goal.returns-in-ClkConf
unfolding written held register_at replaced words_by value_of choose decide
returns-in-ClkConf c = rw c.in-ClkConf.is

pub returns-in-IdleConf : goal.returns-in-IdleConf
unfolding written held register_at replaced words_by value_of choose decide
returns-in-IdleConf c = rw c.in-IdleConf.is

pub returns-in-Rs485Conf : goal.returns-in-Rs485Conf
unfolding written held register_at replaced words_by value_of choose decide
returns-in-Rs485Conf c = rw c.in-Rs485Conf.is

pub returns-in-AtCmdChar : goal.returns-in-AtCmdChar
unfolding written held register_at replaced words_by value_of choose decide
returns-in-AtCmdChar c = rw c.in-AtCmdChar.is

pub returns-in-MemConf : goal.returns-in-MemConf
unfolding written held register_at replaced words_by value_of choose decide
returns-in-MemConf c = rw c.in-MemConf.is

pub returns-in_default : goal.returns-in_default
unfolding written held register_at replaced words_by value_of choose decide
returns-in_default c =
    place-keys (λ p. c.args.words ≡ written (held_at p) c.args.value c.args.words) 0
    (1 ∷ 2 ∷ 4 ∷ 6 ∷ 7 ∷ 15 ∷ 16 ∷ []) c.args.place (refl, (refl, (refl, (refl, (refl, (refl, (refl, (refl, tt))))))))
    c.in_default.in_default-own.keys10
