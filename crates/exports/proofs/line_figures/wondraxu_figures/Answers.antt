-- `line_figures::wondraxu_figures` meets its contract: the figures of the frames, in plain numbers. Assumes nothing.
use mathlib.Core.Path.{ap, ◌∙◌}
use Rattle.ffi.specs.Figures.{plain_figures}
use Rattle.exports.proofs.line_figures.wondraxu_figures.Goals as goal

pub returns : goal.returns
returns c = c.plain_figures.ensures ∙ ap plain_figures c.figures-answer.ensures
