-- `settle_at::settle_at` meets its contract: the core with its last date moved is settled. Assumes nothing.
use Rattle.model.specs.Calls.{dated}
use Rattle.calls.specs.Changes.{dated-ok}
use Rattle.calls.proofs.settle_at.settle_at.Goals as goal

pub settle-requires : goal.settle-requires
settle-requires c = let start = c in
    rw c.with_last-moved.ensures (dated-ok _ _ _ c.requires.0 c.requires.1)

pub returns : goal.returns
unfolding dated
returns c = rw c.with_last-moved.ensures at c.settle.ensures
