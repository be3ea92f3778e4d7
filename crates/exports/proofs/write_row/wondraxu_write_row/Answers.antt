-- `write_row::wondraxu_write_row` meets its contract, which is that of `write_row` over the core that was meant. Assumes nothing.
use Rattle.ffi.specs.Answers.{ok_of, plainly-row}
use Rattle.exports.proofs.write_row.wondraxu_write_row.Goals as goal

pub write_row-done-requires : goal.write_row-done-requires
write_row-done-requires c =
    ok_of _ c.core_of-from.ensures c.requires

pub returns : goal.returns
returns c =
    plainly-row _ c.core_of-from.ensures c.write_row-done.ensures
    c.row_answer.ensures
