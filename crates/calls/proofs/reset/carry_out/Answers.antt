-- `reset::carry_out` meets its contract: settled from the end of a power-down, cleared, leveled and armed. Assumes nothing.
use Rattle.calls.specs.Resets.{from-ok, cleared-ready, restarted}
use Rattle.calls.proofs.reset.carry_out.Goals as goal

pub settle_at-t-requires : goal.settle_at-t-requires
settle_at-t-requires c =
    let start = c in
    (from-ok c.args.cycle c.requires.0 c.with_powered_down_at-from.ensures, c.requires.1)

pub conclude-restarted-requires : goal.conclude-restarted-requires
conclude-restarted-requires c = cleared-ready c.settle_at-t.ensures.ok c.clear-cleared.ensures

pub returns : goal.returns
returns c =
    let start = c in
    restarted c.args.cycle c.requires.0
    c.with_powered_down_at-from.ensures
    c.settle_at-t.ensures c.clear-cleared.ensures c.conclude-restarted.ensures c.done.ensures
