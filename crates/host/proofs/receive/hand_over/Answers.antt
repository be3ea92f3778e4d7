-- `receive::hand_over` meets its contract: none changes nothing, and others wait behind those that do. Assumes nothing.
use native.Mathlib.Omega.{arith}
use Rattle.host.specs.Hands.{hands_none, hands-some}
use Rattle.host.proofs.receive.hand_over.Goals as goal

pub returns-then-n-eq0 : goal.returns-then-n-eq0
returns-then-n-eq0 c =
    let o = c.args in
    hands_none o.date o.bytes.now o.core o.gone_at.now o.host.now o.run_at.now o.run_len.now c.if-n-eq0.true

pub append-waiting-requires : goal.append-waiting-requires
append-waiting-requires c =
    let p = c.requires in
    (p.host, p.host_slots, p.room (omega (arith, c.if-n-eq0.false)))

pub join-runs-requires : goal.join-runs-requires
join-runs-requires c =
    let p = c.requires in
    (p.runs, p.date_slots, p.count_slots, p.runs_room (omega (arith, c.if-n-eq0.false)))

pub arm-requires : goal.arm-requires
arm-requires c =
    let p = c.requires in
    let j = c.join-runs.ensures in
    (record { flight = p.ready.flight; slots = p.ready.slots; period = p.ready.period }, j.held, j.date_slots)

pub returns : goal.returns
returns c =
    let start = c in
    let o = c.args in
    let put = c.append-waiting.ensures in
    let some_byte = c.if-n-eq0.false in
    hands-some o.date o.bytes.now o.core o.gone_at.now o.host.now o.run_at.now o.run_len.now
    (omega (arith, some_byte))
    (c.requires.room (omega (arith, some_byte))) put.slots_after c.join-runs.ensures put.value c.arm.ensures
