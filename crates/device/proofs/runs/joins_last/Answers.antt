-- `runs::joins_last` meets its contract, by the test. Assumes nothing.
use borrow.Author.Tests.{lt-ltb, le-ltb}
use Rattle.model.specs.Numbers.{choose}
use Rattle.device.specs.Joins.{joins}
use Rattle.device.proofs.runs.joins_last.Goals as goal

pub returns-then-runs-gt0 : goal.returns-then-runs-gt0
unfolding joins choose
returns-then-runs-gt0 c = rw (lt-ltb 0 _ c.if-runs-gt0.true)

pub returns-else-runs-gt0 : goal.returns-else-runs-gt0
unfolding joins choose
returns-else-runs-gt0 c = rw (le-ltb 0 _ c.if-runs-gt0.false)
