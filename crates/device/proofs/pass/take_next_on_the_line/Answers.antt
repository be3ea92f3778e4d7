-- `pass::take_next_on_the_line` meets its contract: its calls give the parts that `assembled` puts together. Assumes nothing.
use native.Mathlib.Omega.{arith}
use Rattle.device.proofs.Carries.{assembled}
use Rattle.device.proofs.pass.take_next_on_the_line.Goals as goal

pub back-next-requires : goal.back-next-requires
back-next-requires c = c.requires.rx

pub bounds-rx-next : goal.bounds-rx-next
bounds-rx-next c = let p = c.requires in
    omega (arith, c.back-next.ensures.1, p.rx_slots)

pub bounds-rx-next-2 : goal.bounds-rx-next-2
bounds-rx-next-2 c = let p = c.requires in
    omega (arith, c.back-next.ensures.1, p.rx_slots)

pub popped_if-requires : goal.popped_if-requires
popped_if-requires c =
    c.requires.host.low

pub popped_if-requires-2 : goal.popped_if-requires-2
popped_if-requires-2 c =
    c.requires.runs.low

pub pushed_if-requires : goal.pushed_if-requires
pushed_if-requires c =
    let p = c.requires in
    omega (arith, p.rx.few)

pub returns : goal.returns
returns c =
    let start = c in
    let o = c.args in
    assembled o.settings o.date o.at o.host.now o.run_at.now o.run_len.now o.rx.now c.requires
    c.waiting-waits.ensures
    c.take_next_on_the_line-m.ensures
    c.is_stored-stored.ensures
    c.choose-byte.ensures
    c.back-next.ensures.0
    c.choose.ensures
    c.less_if.ensures
    c.popped_if.ensures
    c.is_spent.ensures
    c.popped_if-2.ensures
    c.pushed_if.ensures
