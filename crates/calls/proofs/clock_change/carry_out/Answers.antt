-- `clock_change::carry_out` meets its contract: two settlings, the period set between them, and armed. Assumes nothing.
use native.Mathlib.Omega.{arith}
use Rattle.calls.specs.Changes.{ready}
use Rattle.calls.specs.Sums.{from-ok, sums-fit, reclocks}
use Rattle.calls.proofs.clock_change.carry_out.Goals as goal

pub settle_at-first-requires : goal.settle_at-first-requires
settle_at-first-requires c = (c.requires.0, c.requires.1)

pub settle-second-requires : goal.settle-second-requires
settle-second-requires c =
    let start = c in
    from-ok c.args.cycle c.args.period c.requires.2 c.settle_at-first.ensures.ok
    c.with_period-from.ensures

pub arm-armed-requires : goal.arm-armed-requires
arm-armed-requires c =
    let ok = c.settle-second.ensures.ok in
    ready _ _ ok.shape ok.within.period_high

pub overflow_add-first : goal.overflow_add-first
overflow_add-first c =
    let start = c in
    let first = c.settle_at-first.ensures in
    omega (
      arith,
      (sums-fit c.args.cycle c.args.period c.requires.2 first.ok
          c.with_period-from.ensures c.requires.0 c.requires.1 first
          c.settle-second.ensures).0,
    )

pub overflow_add-first-2 : goal.overflow_add-first-2
overflow_add-first-2 c =
    let start = c in
    let first = c.settle_at-first.ensures in
    omega (
      arith,
      (sums-fit c.args.cycle c.args.period c.requires.2 first.ok
          c.with_period-from.ensures c.requires.0
          c.requires.1 first c.settle-second.ensures).1,
    )

pub returns : goal.returns
returns c =
    let start =
    c in
    let first = c.settle_at-first.ensures in
    reclocks start.args.cycle start.args.period start.requires.2 first.ok
    c.with_period-from.ensures start.requires.0
    first c.settle-second.ensures
    c.arm-armed.ensures c.done.ensures
