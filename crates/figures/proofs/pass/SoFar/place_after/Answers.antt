-- `pass::SoFar::place_after` meets its contract. Assumes nothing.
use borrow.Author.Tests.{eq-eqb, ne_eqb, lt-ltb, le-ltb}
use Rattle.figures.specs.Lists.{choose}
use Rattle.figures.specs.Pass.{next_place}
use Rattle.figures.proofs.pass.SoFar.place_after.Goals.{else-self-ne0-via-then-self-ne0+else-self-gap, else-self-ne0-via-else-self-ne0}
use Rattle.figures.proofs.pass.SoFar.place_after.Goals as goal

pub returns-then-self-gap : goal.returns-then-self-gap
unfolding next_place choose
returns-then-self-gap c = simp (ne_eqb _ _ c.if-self-ne0.true, lt-ltb _ _ c.if-self-gap.true)

pub returns-else-self-ne0 : goal.returns-else-self-ne0
unfolding next_place choose
returns-else-self-ne0 c =
    elim c.else-self-ne0.branch [
      | else-self-ne0-via-then-self-ne0+else-self-gap w ↦ simp (ne_eqb _ _ w.if-self-ne0.true, le-ltb _ _ w.if-self-gap.false)
      | else-self-ne0-via-else-self-ne0 w ↦ simp (eq-eqb _ _ w.if-self-ne0.false)
    ]
