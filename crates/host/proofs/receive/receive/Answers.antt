-- `receive::receive` meets its contract: refused as the tests say, or carried out. Assumes nothing.
use Rattle.model.specs.Calls.{receive}
use Rattle.model.proofs.Keeps.EachCall.{receive-within}
use Rattle.calls.specs.Answers.{passes, refuses}
use Rattle.calls.specs.Done.{done-carried, done_refused, receive-zero}
use Rattle.host.specs.Receives.{receive-checks, left-room}
use Rattle.host.proofs.receive.receive.Goals as goal

pub last_date-requires : goal.last_date-requires
last_date-requires c = let k = c.requires.shape in (k.runs, k.run_date_slots)

pub enum_known-tests : goal.enum_known-tests
enum_known-tests c = c.in-Err.in-Err-own.keys1

pub enum_told-1 : goal.enum_told-1
enum_told-1 c = c.in-Ok.in-Ok-own.keys2

pub carry_out-requires : goal.carry_out-requires
carry_out-requires c =
    let start = c in
    let o = c.args in
    left-room o.cycle o.at o.bytes.now c.requires
    (c.last_date.ensures o.run_len.now)
    c.host_date-date.ensures
    (passes c.receive_refusal-tests.ensures
    c.in-Ok.is)

pub returns-in-Err : goal.returns-in-Err
returns-in-Err c =
    let start = c in
    let o = c.args in
    done_refused o.cycle (receive o.cycle o.at o.bytes.now) c.requires
    (receive-checks o.cycle o.at o.bytes.now c.requires
    (c.last_date.ensures o.run_len.now)
    c.host_date-date.ensures)
    (refuses c.receive_refusal-tests.ensures c.in-Err.is) c.refuse.ensures

pub returns-in-Ok : goal.returns-in-Ok
returns-in-Ok c =
    let start = c in
    let o = c.args in
    done-carried o.cycle (receive o.cycle o.at o.bytes.now) c.requires
    (receive-checks o.cycle o.at o.bytes.now c.requires
    (c.last_date.ensures o.run_len.now)
    c.host_date-date.ensures)
    (passes c.receive_refusal-tests.ensures
    c.in-Ok.is)
    (receive-within o.cycle o.at o.bytes.now _ c.requires.within)
    (receive-zero o.cycle _ o.at o.bytes.now) c.carry_out.ensures
