-- `output::put` meets its contract: it copies where there is room. Assumes nothing.
use native.Mathlib.Omega.{arith}
use mathlib.Core.Path.{refl}
use Rattle.text.specs.Output.{put-none, put_all}
use Rattle.text.proofs.output.put.Goals as goal

pub returns-then-room-s : goal.returns-then-room-s
returns-then-room-s c = put-none _ _ _ (omega arith)

pub returns : goal.returns
returns c = put_all _ _ _ _ _ (omega arith) c.copy.ensures refl
