-- `set_up::set_up` meets its contract. Assumes nothing.
use mathlib.Core.Path.{ap₂}
use Rattle.model.specs.Names.{SetUp}
use Rattle.device.specs.declared.Core.{Core}
use Rattle.calls.specs.declared.set_up.NewParts.{NewParts}
use Rattle.calls.proofs.set_up.set_up.Goals as goal

made : Core → SetUp → NewParts
made core reply = record { core = core; reply = reply }

pub returns : goal.returns
unfolding made
returns c = ap₂ made c.new_core-core.ensures c.set_up_reply-reply.ensures
