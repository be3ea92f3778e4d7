-- `take_written::take_written` meets its contract: refused as the test says, or carried out. Assumes nothing.
use mathlib.Core.Path.{refl}
use mathlib.Core.Option.{none}
use borrow.Author.Tests.{ltb-false}
use Rattle.model.proofs.Keeps.Dated.{not-refused}
use Rattle.model.specs.Replies.{taken_number}
use Rattle.model.specs.Calls.{carried, quiet, filled, take_written}
use Rattle.model.proofs.Keeps.EachCall.{take_written-within}
use Rattle.replies.specs.Refusals.{taking_written}
use Rattle.replies.specs.Calls.{written-tests}
use Rattle.calls.specs.Answers.{passes, refuses}
use Rattle.host.specs.Takes.{take-carried, take-refused}
use Rattle.host.specs.TakesWritten.{sent-few, took-written}
use Rattle.host.proofs.take_written.take_written.Goals as goal

pub enum_known-tests : goal.enum_known-tests
enum_known-tests c = c.in-Err.in-Err-own.keys1

pub enum_told-1 : goal.enum_told-1
enum_told-1 c = c.in-Ok.in-Ok-own.keys2

pub fill-count-requires : goal.fill-count-requires
unfolding taking_written
fill-count-requires c =
    let ok = c.requires in (
      ok.shape.flight,
      ok.shape.tx,
      ok.shape.flight_slots,
      ok.shape.tx_slots,
      sent-few _ _ ok,
      ltb-false _ _ (not-refused _ _ none
          (passes c.written_refusal-tests.ensures c.in-Ok.is)).0,
    )

pub returns-in-Err : goal.returns-in-Err
returns-in-Err c =
    let start = c in
    let o = c.args in
    take-refused o.out.now _ _ _ (written-tests o.out.now _)
    (refuses c.written_refusal-tests.ensures c.in-Err.is) c.requires
    c.refuse.ensures

pub returns-in-Ok : goal.returns-in-Ok
unfolding carried take_written quiet filled taken_number
returns-in-Ok c =
    let start = c in
    let o = c.args in
    rw (c.undated.ensures, c.new-rest.ensures, c.new-rest-in-Ok.ensures)
    (take-carried o.out.now _ _ _ (written-tests o.out.now _)
    (passes c.written_refusal-tests.ensures
    c.in-Ok.is)
    (take_written-within o.out.now _ c.requires.within) refl
    (took-written o.out.now o.core _ c.requires.shape c.fill-count.ensures))
