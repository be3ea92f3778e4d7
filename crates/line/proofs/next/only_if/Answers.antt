-- `next::only_if` meets its contract, by the test. Assumes nothing.
use Rattle.model.specs.Numbers.{only_if}
use Rattle.line.proofs.next.only_if.Goals as goal

pub returns-then-test : goal.returns-then-test
unfolding only_if
returns-then-test c = rw c.if-test.true

pub returns-else-test : goal.returns-else-test
unfolding only_if
returns-else-test c = rw c.if-test.false
