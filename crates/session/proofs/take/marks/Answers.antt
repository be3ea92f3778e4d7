-- `take::marks` meets its contract. The loop's invariant: the marks up to the i-th stand there. Assumes nothing.
use mathlib.Core.Path.{◌≡◌, refl, ap, sym, ◌∙◌}
use native.Mathlib.Omega.{arith}
use lib.Seq.{take_all}
use Rattle.session.specs.Requests.{marks_from}
use Rattle.session.specs.HandOuts.{marked-on}
use borrow.Author.Rules.{rules}
use Rattle.session.proofs.take.marks.Goals as goal

pub loop-i-init : goal.loop-i-init
unfolding marks_from
loop-i-init c = (search rules, refl)

pub loop-i-preserved : goal.loop-i-preserved
loop-i-preserved c =
    let w = c.loop-i in (
      search rules,
      marked-on w.slot-items w.i (omega arith) w.invariant.1 c.mark.ensures,
    )

pub returns : goal.returns
returns c =
    let w = c.loop-i in
    let e : w.i ≡ 8192 = omega arith in
    record { value = w.invariant.0; value_2 = sym (take_all w.i w.slot-items (omega arith)) ∙ w.invariant.1 ∙ ap (marks_from 0) e }
