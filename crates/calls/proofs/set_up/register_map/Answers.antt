-- `set_up::register_map` meets its contract, field by field. Assumes nothing.
use mathlib.Core.Bool.{decide}
use Rattle.model.specs.Numbers.{choose}
use Rattle.model.specs.Map.{place_among}
use Rattle.model.specs.SetUp.{map_of}
use Rattle.calls.proofs.set_up.register_map.Goals as goal

pub returns : goal.returns
unfolding map_of place_among choose decide
returns c = rw (c.words_among.ensures, c.idle_status.ensures)
