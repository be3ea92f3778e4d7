-- `pass::less_if` meets its contract, by the test. Assumes nothing.
use native.Mathlib.Omega.{arith}
use Rattle.device.proofs.pass.less_if.Goals as goal

pub returns-else-n-eq0 : goal.returns-else-n-eq0
returns-else-n-eq0 c = rw c.if-yes.true

pub returns-else-yes : goal.returns-else-yes
returns-else-yes c = rw c.if-yes.false (omega arith)
