-- `line_figures::plain_place` meets its contract. Assumes nothing.
use Rattle.ffi.specs.Figures.{plain_place}
use Rattle.ffi.proofs.line_figures.plain_place.Goals as goal

pub returns-in-None : goal.returns-in-None
unfolding plain_place
returns-in-None c = cc

pub returns-in-Some : goal.returns-in-Some
unfolding plain_place
returns-in-Some c = cc
