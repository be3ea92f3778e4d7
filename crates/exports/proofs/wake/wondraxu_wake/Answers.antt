-- `wake::wondraxu_wake` meets its contract, which is that of `wake` over the core that was meant. Assumes nothing.
use Rattle.ffi.specs.Answers.{ok_of, plainly}
use Rattle.exports.proofs.wake.wondraxu_wake.Goals as goal

pub wake-done-requires : goal.wake-done-requires
wake-done-requires c = ok_of _ c.core_of-from.ensures c.requires

pub returns : goal.returns
returns c = plainly _ c.core_of-from.ensures c.wake-done.ensures c.done_answer.ensures
