-- What set-up makes: a core, and its answer. Assumes nothing.
use Rattle.std.specs.Prelude.{ℕ, List, None}
use Rattle.model.specs.SetUp.{map_of, new_control, set_up_reply}
use Rattle.queue.specs.Cursors.{empty}
use Rattle.device.specs.declared.Core.{Core}
use Rattle.calls.specs.declared.set_up.NewParts.{NewParts}

-- a core with nothing in its queues
abbrev pub new_core : List ℕ → List ℕ → Core
new_core offsets resets = record {
  map = map_of offsets resets;
  control = new_control (map_of offsets resets).reset;
  receiving = None;
  byte = 0;
  flight = empty;
  tx = empty;
  host = empty;
  runs = empty;
  rx = empty;
}

-- refused where two offsets are equal
abbrev pub new_parts : List ℕ → List ℕ → NewParts
new_parts offsets resets = record { core = new_core offsets resets; reply = set_up_reply offsets }
