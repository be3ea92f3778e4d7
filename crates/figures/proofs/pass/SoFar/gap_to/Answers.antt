-- `pass::SoFar::gap_to` meets its contract. Assumes nothing.
use borrow.Author.Tests.{eq-eqb, ne_eqb}
use Rattle.figures.specs.Lists.{choose}
use Rattle.figures.specs.Pass.{gap_to}
use Rattle.figures.proofs.pass.SoFar.gap_to.Goals as goal

pub returns-then-self-eq0 : goal.returns-then-self-eq0
unfolding gap_to choose
returns-then-self-eq0 c = simp (eq-eqb _ _ c.if-self-eq0.true)

pub returns : goal.returns
unfolding gap_to choose
returns c = simp (ne_eqb _ _ c.if-self-eq0.false) c.saturating_sub.ensures
