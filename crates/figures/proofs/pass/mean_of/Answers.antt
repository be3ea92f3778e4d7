-- `pass::mean_of` meets its contract. Assumes nothing.
use borrow.Author.Tests.{eq-eqb, ne_eqb}
use Rattle.figures.specs.Lists.{choose}
use Rattle.figures.specs.Figures.{mean_of, remainder_of}
use Rattle.figures.proofs.pass.mean_of.Goals as goal

pub returns-then-count-eq0 : goal.returns-then-count-eq0
unfolding mean_of remainder_of choose
returns-then-count-eq0 c = (simp (eq-eqb _ _ c.if-count-eq0.true), simp (eq-eqb _ _ c.if-count-eq0.true))

pub returns : goal.returns
unfolding mean_of remainder_of choose
returns c = (simp (ne_eqb _ _ c.if-count-eq0.false), simp (ne_eqb _ _ c.if-count-eq0.false))
