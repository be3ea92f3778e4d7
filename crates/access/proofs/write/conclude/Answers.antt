-- `write::conclude` meets its contract. Assumes nothing.
use Rattle.access.specs.Concludes.{concludes-any}
use Rattle.access.proofs.write.conclude.Goals as goal

pub conclude-core-requires : goal.conclude-core-requires
conclude-core-requires c = c.requires

pub returns : goal.returns
returns c = concludes-any _ c.conclude-core.ensures c.answer.ensures
