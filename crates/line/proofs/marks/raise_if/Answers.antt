-- `marks::raise_if` meets its contract, by the test. Assumes nothing.
use Rattle.model.specs.Numbers.{choose}
use Rattle.line.proofs.marks.raise_if.Goals as goal

pub returns-then-test : goal.returns-then-test
unfolding choose
returns-then-test c = rw c.if-test.true

pub returns-else-test : goal.returns-else-test
unfolding choose
returns-else-test c = rw c.if-test.false
