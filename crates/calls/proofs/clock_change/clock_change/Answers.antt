-- `clock_change::clock_change` meets its contract: refused as the tests say, or carried out. Assumes nothing.
use mathlib.Core.Option.{none}
use Rattle.model.specs.Calls.{machine}
use Rattle.model.specs.Call.{Machine}
use Rattle.model.proofs.Keeps.EachCall.{clock_change-within}
use Rattle.replies.specs.Calls.{clock-tests}
use Rattle.replies.specs.Refusals.{clocking}
use Rattle.calls.specs.Answers.{passes, refuses, in-time}
use Rattle.calls.specs.Done.{done-carried, done_refused, clock-zero}
use borrow.Author.Tests.{ltb-false}
use Rattle.model.proofs.Keeps.Dated.{not-refused}
use Rattle.calls.proofs.clock_change.clock_change.Goals as goal

pub enum_known-tests : goal.enum_known-tests
enum_known-tests c = c.in-Err.in-Err-own.keys1

pub enum_told-1 : goal.enum_told-1
enum_told-1 c = c.in-Ok.in-Ok-own.keys2

pub carry_out-requires : goal.carry_out-requires
unfolding clocking
carry_out-requires c =
    let tests =
    in-time _ _ _ (passes c.clock_refusal-tests.ensures
    c.in-Ok.is) in
    (c.requires, tests.0, ltb-false _ _ (not-refused _ _ none tests.1).0)

pub returns-in-Err : goal.returns-in-Err
returns-in-Err c =
    let start = c in
    let o = c.args in
    done_refused o.cycle (machine o.cycle (Machine.clock_change o.period)) c.requires (clock-tests o.cycle _ o.period)
    (refuses c.clock_refusal-tests.ensures c.in-Err.is) c.refuse.ensures

pub returns-in-Ok : goal.returns-in-Ok
returns-in-Ok c =
    let start = c in
    let o = c.args in
    done-carried o.cycle (machine o.cycle (Machine.clock_change o.period)) c.requires (clock-tests o.cycle _ o.period)
    (passes c.clock_refusal-tests.ensures
    c.in-Ok.is)
    (clock_change-within o.cycle o.period _ c.requires.within) (clock-zero o.cycle _ o.period) c.carry_out.ensures
