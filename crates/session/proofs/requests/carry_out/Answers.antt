-- `requests::carry_out` meets its contract: each call, and the row, is what its name asks for. Assumes nothing.
use mathlib.Core.Path.{ap, ap₂, ◌∙◌}
use mathlib.Core.Option.{some}
use mathlib.Core.List.{[], map}
use Prim.Native.Nat.{ℕ}
use lib.Dec.{eqb}
use lib.ListN.{take, drop, get_or}
use Rattle.trace.specs.Low.{low_of}
use Rattle.model.specs.Call.{Machine, Dated, Call, Asked, reads, writes, does}
use Rattle.model.proofs.Laws.StepCases.{step-cases}
use Rattle.uart.specs.Whole.{meaning}
use Rattle.answers.specs.Replies.{read_text, write_text, done_text}
use Rattle.trace.specs.Pairs.{firsts_in, seconds_in}
use Rattle.session.specs.Requests.{sets_up, calls, tells}
use Rattle.session.specs.Answers.{call-asked, gives, said, gives_as, told-as, is-ready}
use Rattle.session.proofs.requests.carry_out.Goals as goal

pub returns-in-Setup : goal.returns-in-Setup
returns-in-Setup c =
    let far = c in
    let a = c.args in
    gives_as (ap (sets_up (take 16 (map low_of (drop 0 a.numbers))) (take 16 (map low_of (drop 16 a.numbers)))) (is-ready a.session
    c.requires.ready_value)
    ∙ told-as a.numbers a.last a.bytes.now a.s.now (meaning a.session.uart)
    c.in-Setup.is)
    c.set_up.ensures

pub returns-in-Read : goal.returns-in-Read
returns-in-Read c =
    let far = c in
    let a = c.args in
    gives_as (ap (λ (k : ℕ). calls (Asked.call (Call.at (get_or a.numbers 0 0) (Dated.read k))) [] (some (meaning a.session.uart)))
    c.low.ensures
    ∙ told-as a.numbers a.last a.bytes.now a.s.now (meaning a.session.uart)
    c.in-Read.is)
    (gives c.read.ensures (Asked.call (Call.at (get_or a.numbers 0 0)
    (Dated.read c.low.result))) reads
    (call-asked _ _ ∙ (step-cases _).read _ _) (said c.read.ensures
    read_text) c.after_read.ensures)

pub returns-in-Write : goal.returns-in-Write
returns-in-Write c =
    let far = c in
    let a = c.args in
    gives_as (ap₂ (λ (o : ℕ) (v : ℕ). calls (Asked.call (Call.at (get_or a.numbers 0 0) (Dated.write (record { offset = o; value = v }))))
    []
    (some (meaning a.session.uart))) c.low-in-Write.ensures
    c.low-in-Write-2.ensures
    ∙ told-as a.numbers a.last a.bytes.now a.s.now (meaning a.session.uart)
    c.in-Write.is)
    (gives c.write.ensures (Asked.call (Call.at (get_or a.numbers 0 0)
    (Dated.write (record {
      offset = c.low-in-Write.result;
      value =
          c.low-in-Write-2.result;
    })))) writes (call-asked _ _ ∙ (step-cases _).write _ _)
    (said c.write.ensures write_text) c.after_write.ensures)

pub returns-in-WriteRow : goal.returns-in-WriteRow
returns-in-WriteRow c =
    let far = c in
    let a = c.args in
    gives_as (told-as a.numbers a.last a.bytes.now a.s.now (meaning a.session.uart)
    c.in-WriteRow.is)
    c.write_row.ensures

pub returns-in-Receive : goal.returns-in-Receive
returns-in-Receive c =
    let far = c in
    let a = c.args in
    gives_as (told-as a.numbers a.last a.bytes.now a.s.now (meaning a.session.uart)
    c.in-Receive.is)
    c.receive.ensures

pub returns-in-Wake : goal.returns-in-Wake
returns-in-Wake c =
    let far = c in
    let a = c.args in
    gives_as (told-as a.numbers a.last a.bytes.now a.s.now (meaning a.session.uart)
    c.in-Wake.is)
    (gives c.wake.ensures (Asked.call (Call.at (get_or a.numbers 0 0) (Dated.machine Machine.wake))) does
    (call-asked _ _ ∙ (step-cases _).machine _ _)
    (said c.wake.ensures done_text) c.after_done.ensures)

pub returns-in-Watch : goal.returns-in-Watch
returns-in-Watch c =
    let far = c in
    let a = c.args in
    gives_as (told-as a.numbers a.last a.bytes.now a.s.now (meaning a.session.uart)
    c.in-Watch.is)
    (gives c.watch.ensures
    (Asked.call (Call.at (get_or a.numbers 0 0) (Dated.machine (Machine.watch (eqb a.last 1))))) does
    (call-asked _ _ ∙ (step-cases _).machine _ _)
    (said c.watch.ensures done_text) c.after_done-in-Watch.ensures)

pub returns-in-Reset : goal.returns-in-Reset
returns-in-Reset c =
    let far = c in
    let a = c.args in
    gives_as (told-as a.numbers a.last a.bytes.now a.s.now (meaning a.session.uart)
    c.in-Reset.is)
    (gives c.reset.ensures (Asked.call (Call.at (get_or a.numbers 0 0)
    (Dated.machine Machine.reset))) does
    (call-asked _ _ ∙ (step-cases _).machine _ _)
    (said c.reset.ensures done_text) c.after_done-in-Reset.ensures)

pub returns-in-PowerDown : goal.returns-in-PowerDown
returns-in-PowerDown c =
    let far = c in
    let a = c.args in
    gives_as (told-as a.numbers a.last a.bytes.now a.s.now (meaning a.session.uart)
    c.in-PowerDown.is)
    (gives c.power_down.ensures
    (Asked.call (Call.at (get_or a.numbers 0 0) (Dated.machine Machine.power_down))) does
    (call-asked _ _ ∙ (step-cases _).machine _ _)
    (said c.power_down.ensures done_text) c.after_done-in-PowerDown.ensures)

pub returns-in-Clock : goal.returns-in-Clock
returns-in-Clock c =
    let far = c in
    let a = c.args in
    gives_as (told-as a.numbers a.last a.bytes.now a.s.now (meaning a.session.uart)
    c.in-Clock.is)
    (gives c.clock_change.ensures
    (Asked.call (Call.at (get_or a.numbers 0 0) (Dated.machine (Machine.clock_change (get_or a.numbers 1 0))))) does
    (call-asked _ _ ∙ (step-cases _).machine _ _)
    (said c.clock_change.ensures done_text) c.after_done-in-Clock.ensures)

pub returns-in-TakeTx : goal.returns-in-TakeTx
returns-in-TakeTx c =
    let far = c in
    let a = c.args in
    gives_as (told-as a.numbers a.last a.bytes.now a.s.now (meaning a.session.uart)
    c.in-TakeTx.is)
    c.take_tx.ensures

pub returns-in-TakeWritten : goal.returns-in-TakeWritten
returns-in-TakeWritten c =
    let far = c in
    let a = c.args in
    gives_as (told-as a.numbers a.last a.bytes.now a.s.now (meaning a.session.uart)
    c.in-TakeWritten.is)
    c.take_written.ensures

pub returns-in-HasLeft : goal.returns-in-HasLeft
returns-in-HasLeft c =
    let far = c in
    let a = c.args in
    gives_as (told-as a.numbers a.last a.bytes.now a.s.now (meaning a.session.uart)
    c.in-HasLeft.is)
    c.has_left.ensures

pub returns-in-HostPending : goal.returns-in-HostPending
returns-in-HostPending c =
    let far = c in
    let a = c.args in
    gives_as (told-as a.numbers a.last a.bytes.now a.s.now (meaning a.session.uart)
    c.in-HostPending.is)
    c.host_pending.ensures

pub returns-in-Figures : goal.returns-in-Figures
returns-in-Figures c =
    let far = c in
    let a = c.args in
    gives_as (ap (tells (firsts_in a.s.now) (seconds_in a.s.now)) (is-ready a.session
    c.requires.ready_value)
    ∙ told-as a.numbers a.last a.bytes.now a.s.now (meaning a.session.uart)
    c.in-Figures.is)
    c.line_figures.ensures
