-- `set_up::words_among` meets its contract, word by word. Assumes nothing.
use mathlib.Core.Path.{refl}
use mathlib.Core.Bool.{decide}
use Rattle.model.specs.Numbers.{choose}
use Rattle.model.specs.Map.{place_among, words_by}
use Rattle.model.specs.SetUp.{words_among}
use Rattle.calls.proofs.set_up.words_among.Goals as goal

pub returns : goal.returns
unfolding words_among words_by place_among choose decide
returns c = refl
