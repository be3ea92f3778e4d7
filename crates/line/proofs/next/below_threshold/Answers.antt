-- `next::below_threshold` meets its contract, by the tests on the way. Assumes nothing.
use borrow.Author.Tests.{lt-ltb, le-ltb}
use Rattle.model.specs.Numbers.{choose}
use Rattle.model.specs.Settle.{empty_threshold}
use Rattle.line.specs.Instants.{below_threshold}
use Rattle.line.proofs.next.below_threshold.Goals as goal

pub returns-then-threshold-flying : goal.returns-then-threshold-flying
unfolding below_threshold empty_threshold choose
returns-then-threshold-flying c = rw (
  ← c.txfifo_empty_thrhd-threshold.ensures,
  lt-ltb 0 _ c.if-threshold-gt0.true,
  lt-ltb _ _
      c.if-threshold-flying.true,
)

pub returns-else-threshold-flying : goal.returns-else-threshold-flying
unfolding below_threshold empty_threshold choose
returns-else-threshold-flying c = rw (
  ← c.txfifo_empty_thrhd-threshold.ensures,
  lt-ltb 0 _ c.if-threshold-gt0.true,
  le-ltb _ _
      c.if-threshold-flying.false,
)

pub returns-else-threshold-gt0 : goal.returns-else-threshold-gt0
unfolding below_threshold empty_threshold choose
returns-else-threshold-gt0 c = rw (← c.txfifo_empty_thrhd-threshold.ensures, le-ltb 0 _ c.if-threshold-gt0.false)
