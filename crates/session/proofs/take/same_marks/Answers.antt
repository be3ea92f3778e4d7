-- `take::same_marks` meets its contract. The loop's invariant: the marks up to the i-th are as they were. Assumes nothing.
use mathlib.Core.Path.{refl, sym, ◌∙◌}
use native.Mathlib.Omega.{arith}
use Rattle.session.specs.HandOuts.{marked-same, marked_other, marked-end}
use Rattle.session.proofs.take.same_marks.Goals as goal

pub loop-i-init : goal.loop-i-init
loop-i-init c = refl

pub returns-then-lent-i : goal.returns-then-lent-i
returns-then-lent-i c =
    let w = c.loop-i in
    sym (w.invariant ∙ marked_other _ w.i (omega arith) (λ e. c.if-lent-i.true (e ∙ sym c.mark.ensures)))

pub loop-i-preserved : goal.loop-i-preserved
loop-i-preserved c =
    let w = c.loop-i in
    w.invariant ∙ marked-same _ w.i (omega arith) (c.if-lent-i.false ∙ c.mark.ensures)

pub returns : goal.returns
returns c =
    let w = c.loop-i in
    sym (w.invariant ∙ marked-end _ w.i (omega arith))
