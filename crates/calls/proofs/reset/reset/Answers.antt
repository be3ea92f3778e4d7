-- `reset::reset` meets its contract: refused as the tests say, or carried out. Assumes nothing.
use mathlib.Core.Option.{none}
use Rattle.model.specs.Calls.{machine}
use Rattle.model.specs.Call.{Machine}
use Rattle.model.proofs.Keeps.EachCall.{reset-within}
use Rattle.replies.specs.Calls.{reset-tests}
use Rattle.replies.specs.Refusals.{dates_only}
use Rattle.calls.specs.Answers.{passes, refuses, in-time}
use Rattle.calls.specs.Done.{done-carried, done_refused, reset-zero}
use Rattle.calls.proofs.reset.reset.Goals as goal

pub enum_known-tests : goal.enum_known-tests
enum_known-tests c = c.in-Err.in-Err-own.keys1

pub enum_told-1 : goal.enum_told-1
enum_told-1 c = c.in-Ok.in-Ok-own.keys2

pub carry_out-requires : goal.carry_out-requires
unfolding dates_only
carry_out-requires c = (
  c.requires,
  (in-time _ _ none (passes c.date_refusal-tests.ensures
      c.in-Ok.is)).0,
)

pub returns-in-Err : goal.returns-in-Err
returns-in-Err c =
    let start = c in
    let o = c.args in
    done_refused o.cycle (machine o.cycle Machine.reset) c.requires (reset-tests o.cycle _)
    (refuses c.date_refusal-tests.ensures c.in-Err.is) c.refuse.ensures

pub returns-in-Ok : goal.returns-in-Ok
returns-in-Ok c =
    let start = c in
    let o = c.args in
    done-carried o.cycle (machine o.cycle Machine.reset) c.requires (reset-tests o.cycle _)
    (passes c.date_refusal-tests.ensures
    c.in-Ok.is)
    (reset-within o.cycle _ c.requires.within) (reset-zero o.cycle _) c.carry_out.ensures
