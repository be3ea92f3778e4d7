-- `reset::wondraxu_reset` meets its contract, which is that of `reset` over the core that was meant. Assumes nothing.
use Rattle.ffi.specs.Answers.{ok_of, plainly}
use Rattle.exports.proofs.reset.wondraxu_reset.Goals as goal

pub reset-done-requires : goal.reset-done-requires
reset-done-requires c = ok_of _ c.core_of-from.ensures c.requires

pub returns : goal.returns
returns c = plainly _ c.core_of-from.ensures c.reset-done.ensures c.done_answer.ensures
