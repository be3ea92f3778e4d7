-- `words::blank_resets` meets its contract. Assumes nothing.
use mathlib.Core.Path.{refl}
use Rattle.theorems.specs.Blanked.{blank_resets}
use Rattle.blanking.proofs.words.blank_resets.Goals as goal

pub returns : goal.returns
unfolding blank_resets
returns c = refl
