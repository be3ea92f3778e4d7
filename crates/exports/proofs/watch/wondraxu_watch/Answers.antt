-- `watch::wondraxu_watch` meets its contract, which is that of `watch` over the core that was meant. Assumes nothing.
use Rattle.ffi.specs.Answers.{ok_of, plainly}
use Rattle.exports.proofs.watch.wondraxu_watch.Goals as goal

pub watch-done-requires : goal.watch-done-requires
watch-done-requires c = ok_of _ c.core_of-from.ensures c.requires

pub returns : goal.returns
returns c = plainly _ c.core_of-from.ensures c.watch-done.ensures c.done_answer.ensures
