-- `receive::carry_out` meets its contract: settled, and handed over. Assumes nothing.
use Rattle.model.specs.Calls.{host_date}
use Rattle.host.specs.Receives.{takes, received}
use Rattle.host.proofs.receive.carry_out.Goals as goal

pub settle_at-t-requires : goal.settle_at-t-requires
settle_at-t-requires c = let p = c.requires in (p.0, p.1)

pub hand_over-next-requires : goal.hand_over-next-requires
hand_over-next-requires c =
    let start = c in
    let o = c.args in
    takes o.cycle (host_date o.cycle o.at) o.bytes.now c.requires.2 c.settle_at-t.ensures
    c.host_date.ensures

pub returns : goal.returns
returns c =
    let start = c in
    let o = c.args in
    received o.cycle o.at o.bytes.now c.requires.0 c.settle_at-t.ensures
    c.host_date.ensures c.hand_over-next.ensures
    c.done.ensures
