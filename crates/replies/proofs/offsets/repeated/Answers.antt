-- `offsets::repeated` meets its contract: each offset is looked for among those behind it. Assumes nothing.
use mathlib.Core.Path.{refl, sym, ◌∙◌}
use native.Mathlib.Omega.{arith}
use Rattle.replies.specs.Offsets.{repeated-found, repeated-passed, repeated-end}
use Rattle.replies.proofs.offsets.repeated.Goals as goal

pub loop-at-init : goal.loop-at-init
loop-at-init c = refl

pub returns-then-stands_from : goal.returns-then-stands_from
returns-then-stands_from c =
    repeated-found c.loop-at.at _ (omega arith) (sym c.stands_from.ensures ∙ c.if-stands_from.true)
    ∙ c.loop-at.invariant

pub loop-at-preserved : goal.loop-at-preserved
loop-at-preserved c =
    sym (repeated-passed c.loop-at.at _ (omega arith) (sym c.stands_from.ensures ∙ c.if-stands_from.false))
    ∙ c.loop-at.invariant

pub returns : goal.returns
returns c = repeated-end c.loop-at.at _ (omega arith) ∙ c.loop-at.invariant
