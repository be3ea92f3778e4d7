-- `storage::read` meets its contract, place by place. Assumes nothing.
use Rattle.std.specs.Prelude.{None, Ok}
use mathlib.Core.Path.{◌≡◌, refl}
use mathlib.Core.List.{[], ◌∷◌}
use Rattle.model.specs.Replies.{as_read}
use Rattle.model.specs.Map.{value_of}
use Rattle.registers.specs.Places.{register_at}
use Rattle.registers.specs.Storage.{held, held_at, loaded}
use Rattle.registers.proofs.Tags.{place-keys}
use Rattle.registers.proofs.storage.read.Goals as goal

pub returns-in-IntEna : goal.returns-in-IntEna
unfolding as_read loaded held register_at value_of
returns-in-IntEna c = rw c.in-IntEna.is

pub returns-in-Clkdiv : goal.returns-in-Clkdiv
unfolding as_read loaded held register_at value_of
returns-in-Clkdiv c = rw c.in-Clkdiv.is

pub returns-in-Conf0 : goal.returns-in-Conf0
unfolding as_read loaded held register_at value_of
returns-in-Conf0 c = rw c.in-Conf0.is

pub returns-in-Conf1 : goal.returns-in-Conf1
unfolding as_read loaded held register_at value_of
returns-in-Conf1 c = rw c.in-Conf1.is

pub returns-in-ClkConf : goal.returns-in-ClkConf
unfolding as_read loaded held register_at value_of
returns-in-ClkConf c = rw c.in-ClkConf.is

pub returns-in-IdleConf : goal.returns-in-IdleConf
unfolding as_read loaded held register_at value_of
returns-in-IdleConf c = rw c.in-IdleConf.is

pub returns-in-Rs485Conf : goal.returns-in-Rs485Conf
unfolding as_read loaded held register_at value_of
returns-in-Rs485Conf c = rw c.in-Rs485Conf.is

pub returns-in-AtCmdChar : goal.returns-in-AtCmdChar
unfolding as_read loaded held register_at value_of
returns-in-AtCmdChar c = rw c.in-AtCmdChar.is

pub returns-in-MemConf : goal.returns-in-MemConf
unfolding as_read loaded held register_at value_of
returns-in-MemConf c = rw c.in-MemConf.is

pub returns-in_default : goal.returns-in_default
unfolding as_read loaded held register_at value_of
returns-in_default c =
    place-keys (λ p. (Ok None) ≡ as_read (loaded c.args.words (held_at p))) 0 (1 ∷ 2 ∷ 4 ∷ 6 ∷ 7 ∷ 15 ∷ 16 ∷ [])
    c.args.place (refl, (refl, (refl, (refl, (refl, (refl, (refl, (refl, tt)))))))) c.in_default.in_default-own.keys10
