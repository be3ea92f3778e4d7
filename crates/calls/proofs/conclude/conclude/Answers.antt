-- `conclude::conclude` meets its contract. Assumes nothing.
use Rattle.calls.specs.Concludes.{leveled-ready, concludes-any}
use Rattle.calls.proofs.conclude.conclude.Goals as goal

pub arm-armed-requires : goal.arm-armed-requires
arm-armed-requires c = leveled-ready _ c.assert_and_drive-leveled.ensures c.requires

pub returns : goal.returns
returns c = concludes-any _ c.assert_and_drive-leveled.ensures c.arm-armed.ensures
