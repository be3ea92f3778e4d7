-- `line_figures::plain_figures` meets its contract, case by case. Assumes nothing.
use mathlib.Core.Path.{ap, sym}
use Rattle.figures.specs.Figures.{number}
use Rattle.ffi.specs.Figures.{plain_figures}
use Rattle.ffi.proofs.line_figures.plain_figures.Goals as goal

pub returns-in-Ok : goal.returns-in-Ok
unfolding plain_figures number
returns-in-Ok c = rw c.plain_place-place.ensures (sym (ap plain_figures c.in-Ok.is))

pub returns-in-Err : goal.returns-in-Err
unfolding plain_figures number
returns-in-Err c = sym (ap plain_figures c.in-Err.is)
