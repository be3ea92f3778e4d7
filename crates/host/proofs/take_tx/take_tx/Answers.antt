-- `take_tx::take_tx` meets its contract: refused as the tests say, or carried out. Assumes nothing.
use mathlib.Core.Option.{none}
use borrow.Author.Tests.{ltb-false}
use Rattle.model.proofs.Keeps.Dated.{not-refused}
use Rattle.model.proofs.Keeps.EachCall.{take_tx-within}
use Rattle.replies.specs.Refusals.{taking_tx, taking_written}
use Rattle.replies.specs.Calls.{take-tests}
use Rattle.calls.specs.Answers.{passes, refuses, in-time}
use Rattle.host.specs.Takes.{take-carried, take-refused}
use Rattle.host.specs.TakesTx.{take-tx-zero}
use Rattle.host.proofs.take_tx.take_tx.Goals as goal

pub enum_known-tests : goal.enum_known-tests
enum_known-tests c = c.in-Err.in-Err-own.keys1

pub enum_told-1 : goal.enum_told-1
enum_told-1 c = c.in-Ok.in-Ok-own.keys2

pub carry_out-requires : goal.carry_out-requires
unfolding taking_tx taking_written
carry_out-requires c =
    let tests =
    in-time _ _ _ (passes c.take_refusal-tests.ensures
    c.in-Ok.is) in (
      c.requires,
      tests.0,
      ltb-false _ _ (not-refused _ _ none tests.1).0,
    )

pub returns-in-Err : goal.returns-in-Err
returns-in-Err c =
    let o = c.args in
    take-refused o.out.now _ _ _ (take-tests o.cycle _ o.out.now)
    (refuses c.take_refusal-tests.ensures c.in-Err.is)
    c.requires c.refuse.ensures

pub returns-in-Ok : goal.returns-in-Ok
returns-in-Ok c =
    let o = c.args in
    take-carried o.out.now _ _ _ (take-tests o.cycle _ o.out.now)
    (passes c.take_refusal-tests.ensures
    c.in-Ok.is)
    (take_tx-within o.cycle o.out.now _ c.requires.within) (take-tx-zero o.cycle o.out.now _) c.carry_out.ensures
