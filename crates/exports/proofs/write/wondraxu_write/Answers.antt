-- `write::wondraxu_write` meets its contract, which is that of `write` over the core that was meant. Assumes nothing.
use Rattle.ffi.specs.Answers.{ok_of, plainly}
use Rattle.exports.proofs.write.wondraxu_write.Goals as goal

pub write-done-requires : goal.write-done-requires
write-done-requires c =
    ok_of _ c.core_of-from.ensures c.requires

pub returns : goal.returns
returns c =
    plainly _ c.core_of-from.ensures c.write-done.ensures
    c.write_answer.ensures
