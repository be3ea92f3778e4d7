-- `pass::SoFar::place_in` meets its contract. Assumes nothing.
use borrow.Author.Tests.{lt-ltb, le-ltb}
use Rattle.figures.specs.Lists.{choose}
use Rattle.figures.specs.Pass.{place_in}
use Rattle.figures.proofs.pass.SoFar.place_in.Goals as goal

pub returns-then-self-lt2 : goal.returns-then-self-lt2
unfolding place_in choose
returns-then-self-lt2 c = simp (lt-ltb _ _ c.if-self-lt2.true)

pub returns : goal.returns
unfolding place_in choose
returns c = simp (le-ltb _ _ c.if-self-lt2.false)
