-- `places::is_fifo` meets its contract, place by place. Assumes nothing.
use mathlib.Core.Path.{◌≡◌, refl, ◌∙◌}
use mathlib.Core.Bool.{decide}
use denote.Enum.Bare.{sameb}
use Rattle.model.specs.Map.{is_fifo}
use Rattle.registers.specs.Places.{register_at}
use Rattle.registers.specs.declared.places.Place.{Place}
use Rattle.registers.specs.declared.places.Place.TheVariants.{Fifo, IntRaw, IntSt, IntEna, IntClr, Clkdiv, Status, FsmStatus, Conf0}
use Rattle.registers.specs.declared.places.Place.TheVariants.{Conf1, ClkConf}
use Rattle.registers.specs.declared.places.Place.TheVariants.{IdleConf, Rs485Conf, AtCmdChar, MemConf, MemRxStatus, Unknown}
use Rattle.registers.specs.contracts.places.Place.{the_type}
use Rattle.registers.proofs.places.is_fifo.Goals as goal

same_as-fifo : (p : Place) → sameb the_type p Fifo ≡ is_fifo (register_at p)
unfolding register_at decide
same_as-fifo Fifo = refl
same_as-fifo IntRaw = refl
same_as-fifo IntSt = refl
same_as-fifo IntEna = refl
same_as-fifo IntClr = refl
same_as-fifo Clkdiv = refl
same_as-fifo Status = refl
same_as-fifo FsmStatus = refl
same_as-fifo Conf0 = refl
same_as-fifo Conf1 = refl
same_as-fifo ClkConf = refl
same_as-fifo IdleConf = refl
same_as-fifo Rs485Conf = refl
same_as-fifo AtCmdChar = refl
same_as-fifo MemConf = refl
same_as-fifo MemRxStatus = refl
same_as-fifo Unknown = refl

pub returns : goal.returns
returns c = c.eq.ensures ∙ same_as-fifo c.args.place
