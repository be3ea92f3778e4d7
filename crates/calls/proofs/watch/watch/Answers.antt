-- `watch::watch` meets its contract: refused as the tests say, or armed. Assumes nothing.
use mathlib.Core.Path.{refl}
use Rattle.model.specs.Calls.{dated, machine}
use Rattle.model.specs.Call.{Machine}
use Rattle.model.proofs.Keeps.EachCall.{watch-within}
use Rattle.replies.specs.Calls.{watch-tests}
use Rattle.calls.specs.Answers.{passes, refuses}
use Rattle.calls.specs.Changes.{ready, shape_of}
use Rattle.calls.specs.Done.{done_refused, done-unsettled}
use Rattle.calls.proofs.watch.watch.Goals as goal

pub enum_known-tests : goal.enum_known-tests
enum_known-tests c = c.in-Err.in-Err-own.keys1

pub enum_told-1 : goal.enum_told-1
enum_told-1 c = c.in-Ok.in-Ok-own.keys2

pub arm-armed-requires : goal.arm-armed-requires
arm-armed-requires c =
    let ok = c.requires in
    rw c.with_watched-from.ensures (ready _ _ (shape_of _ _ _ ok.shape) ok.within.period_high)

pub returns-in-Err : goal.returns-in-Err
returns-in-Err c =
    let start = c in
    let o = c.args in
    done_refused o.cycle (machine o.cycle (Machine.watch o.on)) c.requires (watch-tests o.cycle _ o.on)
    (refuses c.date_refusal-tests.ensures c.in-Err.is) c.refuse.ensures

pub returns-in-Ok : goal.returns-in-Ok
unfolding machine dated
returns-in-Ok c =
    let start = c in
    let o = c.args in
    let armed = rw c.with_watched-from.ensures at c.arm-armed.ensures in
    let works = armed _ refl refl (shape_of _ _ _ c.requires.shape) in
    done-unsettled o.cycle (machine o.cycle (Machine.watch o.on)) c.requires (watch-tests o.cycle _ o.on) _ refl
    (passes c.date_refusal-tests.ensures c.in-Ok.is)
    (watch-within o.cycle o.on _ c.requires.within) works.shape works.same c.done.ensures
