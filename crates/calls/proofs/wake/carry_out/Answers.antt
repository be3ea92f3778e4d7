-- `wake::carry_out` meets its contract: settled from the cleared Deadline, and armed. Assumes nothing.
use Rattle.calls.specs.Changes.{ready}
use Rattle.calls.specs.Wakes.{from-ok, woken}
use Rattle.calls.proofs.wake.carry_out.Goals as goal

pub settle_at-t-requires : goal.settle_at-t-requires
settle_at-t-requires c =
    let start = c in
    (from-ok c.args.cycle c.requires.0 c.called-from.ensures, c.requires.1)

pub arm-armed-requires : goal.arm-armed-requires
arm-armed-requires c =
    let ok = c.settle_at-t.ensures.ok in
    ready _ _ ok.shape ok.within.period_high

pub returns : goal.returns
returns c =
    let start = c in
    woken c.args.cycle c.requires.0 c.called-from.ensures
    c.settle_at-t.ensures c.arm-armed.ensures c.done.ensures
