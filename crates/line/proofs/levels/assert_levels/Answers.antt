-- `levels::assert_levels` meets its contract. Assumes nothing.
use Rattle.model.specs.Line.{raise_if}
use Rattle.line.specs.Levels.{levels}
use Rattle.line.proofs.levels.assert_levels.Goals as goal

pub returns : goal.returns
unfolding levels raise_if
returns c =
    rw (
      c.raise_if.ensures,
      c.below_empty.ensures,
      c.raise_if-full.ensures,
      c.above_full.ensures,
    )
