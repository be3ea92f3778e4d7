-- `power_down::power_down` meets its contract: refused as the tests say, or its date is set. Assumes nothing.
use mathlib.Core.Path.{refl}
use Rattle.model.specs.Calls.{dated, machine}
use Rattle.model.specs.Call.{Machine}
use Rattle.model.proofs.Keeps.EachCall.{power_down-within}
use Rattle.replies.specs.Calls.{power-down-tests}
use Rattle.calls.specs.Answers.{passes, refuses}
use Rattle.calls.specs.Changes.{shape_of}
use Rattle.calls.specs.Done.{done_refused, done-unsettled}
use Rattle.calls.proofs.power_down.power_down.Goals as goal

pub enum_known-tests : goal.enum_known-tests
enum_known-tests c = c.in-Err.in-Err-own.keys1

pub enum_told-1 : goal.enum_told-1
enum_told-1 c = c.in-Ok.in-Ok-own.keys2

pub returns-in-Err : goal.returns-in-Err
returns-in-Err c =
    let start = c in
    let o = c.args in
    done_refused o.cycle (machine o.cycle Machine.power_down) c.requires (power-down-tests o.cycle _)
    (refuses c.date_refusal-tests.ensures c.in-Err.is) c.refuse.ensures

pub returns-in-Ok : goal.returns-in-Ok
unfolding machine dated
returns-in-Ok c =
    let start = c in
    let o = c.args in
    let down =
    rw (
      c.with_powered_down_at-down.ensures,
      c.with_last-moved.ensures,
      c.subcycles.ensures,
    ) at c.done.ensures in
    done-unsettled o.cycle (machine o.cycle Machine.power_down) c.requires (power-down-tests o.cycle _) _ refl
    (passes c.date_refusal-tests.ensures
    c.in-Ok.is) (power_down-within o.cycle _ c.requires.within)
    (shape_of _ _ _ c.requires.shape) refl down
