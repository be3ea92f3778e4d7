-- `power_down::wondraxu_power_down` meets its contract, which is that of `power_down` over the core that was meant. Assumes nothing.
use Rattle.ffi.specs.Answers.{ok_of, plainly}
use Rattle.exports.proofs.power_down.wondraxu_power_down.Goals as goal

pub power_down-done-requires : goal.power_down-done-requires
power_down-done-requires c = ok_of _ c.core_of-from.ensures c.requires

pub returns : goal.returns
returns c = plainly _ c.core_of-from.ensures c.power_down-done.ensures c.done_answer.ensures
