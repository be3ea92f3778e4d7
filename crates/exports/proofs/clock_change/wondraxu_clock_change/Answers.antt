-- `clock_change::wondraxu_clock_change` meets its contract, which is that of `clock_change` over the core that was meant. Assumes nothing.
use Rattle.ffi.specs.Answers.{ok_of, plainly}
use Rattle.exports.proofs.clock_change.wondraxu_clock_change.Goals as goal

pub clock_change-done-requires : goal.clock_change-done-requires
clock_change-done-requires c = ok_of _ c.core_of-from.ensures c.requires

pub returns : goal.returns
returns c =
    plainly _ c.core_of-from.ensures c.clock_change-done.ensures c.done_answer.ensures
