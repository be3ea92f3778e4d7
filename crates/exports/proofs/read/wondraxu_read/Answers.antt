-- `read::wondraxu_read` meets its contract, which is that of `read` over the core that was meant. Assumes nothing.
use Rattle.ffi.specs.Answers.{ok_of, plainly}
use Rattle.exports.proofs.read.wondraxu_read.Goals as goal

pub read-done-requires : goal.read-done-requires
read-done-requires c = ok_of _ c.core_of-from.ensures c.requires

pub returns : goal.returns
returns c = plainly _ c.core_of-from.ensures c.read-done.ensures c.read_answer.ensures
