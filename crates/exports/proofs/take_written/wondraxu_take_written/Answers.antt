-- `take_written::wondraxu_take_written` meets its contract, which is that of `take_written` over the core that was meant. Assumes nothing.
use Rattle.ffi.specs.Answers.{ok_of, plainly}
use Rattle.exports.proofs.take_written.wondraxu_take_written.Goals as goal

pub take_written-done-requires : goal.take_written-done-requires
take_written-done-requires c = ok_of _ c.core_of-from.ensures c.requires

pub returns : goal.returns
returns c =
    plainly _ c.core_of-from.ensures
    c.take_written-done.ensures c.taken_answer.ensures
