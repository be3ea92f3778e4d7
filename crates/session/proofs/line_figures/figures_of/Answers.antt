-- `line_figures::figures_of` meets its contract: the frames that are kept decide. Assumes nothing.
use mathlib.Core.Path.{◌∙◌}
use Rattle.session.specs.Frames.{kept-figures}
use Rattle.session.proofs.line_figures.figures_of.Goals as goal

pub returns : goal.returns
returns c = c.figures.ensures ∙ kept-figures c.pairs_of-n.ensures
