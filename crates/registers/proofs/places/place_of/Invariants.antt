-- What the loop of `places::place_of` keeps.
use mathlib.Core.Path.{◌≡◌}
use Rattle.model.specs.Map.{registers, register_of}
use Rattle.registers.specs.Places.{register_from}
use Rattle.registers.proofs.places.place_of.Given as goal

abbrev pub invariant-loop-at : goal.invariant-loop-at
invariant-loop-at l = register_from l.at l.offset l.known-items registers ≡ register_of l.known-items l.offset
