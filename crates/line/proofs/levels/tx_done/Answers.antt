-- `levels::tx_done` meets its contract, by the first test. Assumes nothing.
use borrow.Author.Tests.{lt-ltb, le-ltb}
use Rattle.model.specs.Numbers.{choose}
use Rattle.model.specs.Line.{raise_if}
use Rattle.model.specs.Settle.{tx_done}
use Rattle.line.proofs.levels.tx_done.Goals as goal

pub returns-then-before-gt0 : goal.returns-then-before-gt0
unfolding tx_done raise_if
returns-then-before-gt0 c = rw (lt-ltb 0 _ c.if-before-gt0.true) c.raise_if.ensures

pub returns : goal.returns
unfolding tx_done raise_if choose
returns c = rw (le-ltb 0 _ c.if-before-gt0.false)
