-- `passes::take_all_on_the_line` meets its contract: in any state with such a receive side, what the definition runs from where the loop
-- stands is what is left of what it runs from the start. The measure is how many passes are left. Assumes nothing.
use native.Mathlib.Omega.{arith}
use mathlib.Core.Path.{sym, ◌∙◌}
use Rattle.line.specs.Seen.{lost-low}
use Rattle.device.specs.Rounds.{blank, few-passes, ran_first, ran-more, ran-end}
use Rattle.device.proofs.passes.take_all_on_the_line.Goals as goal

pub loop-settings-init : goal.loop-settings-init
loop-settings-init c = (c.requires, λ u. ran_first c.args.settings c.args.date _, omega arith, few-passes _ _ _ _ _ _ _ c.requires)

pub take_next_on_the_line-p-requires : goal.take_next_on_the_line-p-requires
take_next_on_the_line-p-requires c = c.loop-settings.invariant.0

pub overflow_add-passes : goal.overflow_add-passes
overflow_add-passes c = let k = c.loop-settings.invariant in
    omega (arith, (k.1 blank).left, k.3)

pub overflow_add-overflows : goal.overflow_add-overflows
overflow_add-overflows c = let k = c.loop-settings.invariant in
    omega (
      arith,
      c.overflow_of-overflows.ensures,
      lost-low c.take_next_on_the_line-p.result.found,
      (k.1 blank).left,
      k.2,
      k.3,
    )

pub loop-settings-smaller : goal.loop-settings-smaller
loop-settings-smaller c = omega (arith, (c.loop-settings.invariant.1 blank).left)

pub loop-settings-preserved : goal.loop-settings-preserved
loop-settings-preserved c = let o = c.args in
    let k = c.loop-settings.invariant in
    let p = c.take_next_on_the_line-p.ensures in
    let more = sym c.goes_on-more.ensures ∙ c.if-not-more.false in (
      p.fit,
      λ u. ran-more o.settings o.date (k.1 u) (p.one u) c.overflow_of-overflows.ensures more,
      omega (
        arith,
        c.overflow_of-overflows.ensures,
        lost-low c.take_next_on_the_line-p.result.found,
        k.2,
      ),
      k.3,
    )

pub returns : goal.returns
returns c = let o = c.args in
    let k = c.loop-settings.invariant in
    let p = c.take_next_on_the_line-p.ensures in
    let last = sym c.goes_on-more.ensures ∙ c.if-not-more.true in
    record { fit = p.fit; all = λ u. ran-end o.settings o.date (k.1 u) (p.one u) c.overflow_of-overflows.ensures last }
