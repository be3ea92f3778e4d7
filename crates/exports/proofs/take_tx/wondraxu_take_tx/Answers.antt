-- `take_tx::wondraxu_take_tx` meets its contract, which is that of `take_tx` over the core that was meant. Assumes nothing.
use Rattle.ffi.specs.Answers.{ok_of, plainly}
use Rattle.exports.proofs.take_tx.wondraxu_take_tx.Goals as goal

pub take_tx-done-requires : goal.take_tx-done-requires
take_tx-done-requires c =
    ok_of _ c.core_of-from.ensures c.requires

pub returns : goal.returns
returns c =
    plainly _ c.core_of-from.ensures
    c.take_tx-done.ensures c.taken_answer.ensures
