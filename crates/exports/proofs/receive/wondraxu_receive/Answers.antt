-- `receive::wondraxu_receive` meets its contract, which is that of `receive` over the core that was meant. Assumes nothing.
use Rattle.ffi.specs.Answers.{ok_of, plainly}
use Rattle.exports.proofs.receive.wondraxu_receive.Goals as goal

pub receive-done-requires : goal.receive-done-requires
receive-done-requires c =
    ok_of _ c.core_of-from.ensures c.requires

pub returns : goal.returns
returns c =
    plainly _ c.core_of-from.ensures c.receive-done.ensures
    c.done_answer.ensures
