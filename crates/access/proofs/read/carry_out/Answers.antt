-- `read::carry_out` meets its contract: settled, and then read. Assumes nothing.
use mathlib.Core.Path.{refl}
use Rattle.model.specs.Replies.{as_read}
use Rattle.model.specs.Registers.{read_at}
use Rattle.model.specs.Calls.{carried, read_placed}
use Rattle.registers.specs.Places.{register_at}
use Rattle.calls.specs.Answers.{after}
use Rattle.access.proofs.read.carry_out.Goals as goal

pub returns : goal.returns
unfolding carried read_placed
returns c =
    let s = c.settle_at-t.ensures in
    rw c.answer.ensures (after as_read s (read_at
    (register_at c.args.place))
    (c.read_place-got.ensures _ refl s.ok.shape))
