-- `runs::waiting` meets its contract, by the tests on the way. Assumes nothing.
use borrow.Author.Tests.{lt-ltb, le-ltb}
use Rattle.model.specs.Numbers.{choose}
use Rattle.device.specs.Waits.{waiting_at}
use Rattle.device.proofs.runs.waiting.Goals as goal

pub returns-then-runs-gt0 : goal.returns-then-runs-gt0
unfolding waiting_at choose
returns-then-runs-gt0 c = rw (lt-ltb 0 _ c.if-host-gt0.true, lt-ltb 0 _ c.if-runs-gt0.true)

pub returns-else-runs-gt0 : goal.returns-else-runs-gt0
unfolding waiting_at choose
returns-else-runs-gt0 c = rw (lt-ltb 0 _ c.if-host-gt0.true, le-ltb 0 _ c.if-runs-gt0.false)

pub returns-else-host-gt0 : goal.returns-else-host-gt0
unfolding waiting_at choose
returns-else-host-gt0 c = rw (le-ltb 0 _ c.if-host-gt0.false)
