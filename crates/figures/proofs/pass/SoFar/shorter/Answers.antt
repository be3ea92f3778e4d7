-- `pass::SoFar::shorter` meets its contract. Assumes nothing.
use borrow.Author.Tests.{eq-eqb, ne_eqb}
use Rattle.figures.specs.Lists.{choose}
use Rattle.figures.specs.Pass.{shorter_of}
use Rattle.figures.proofs.pass.SoFar.shorter.Goals as goal

pub returns-then-self-eq0 : goal.returns-then-self-eq0
unfolding shorter_of choose
returns-then-self-eq0 c = simp (eq-eqb _ _ c.if-self-eq0.true)

pub returns : goal.returns
unfolding shorter_of choose
returns c = simp (ne_eqb _ _ c.if-self-eq0.false) c.min.ensures
