-- `load::pop` meets its contract, by the test on the count. Assumes nothing.
use Rattle.access.specs.Reads.{pop-takes, pop-misses}
use Rattle.access.proofs.load.pop.Goals as goal

pub returns-then-core-gt0 : goal.returns-then-core-gt0
returns-then-core-gt0 c = pop-takes _ _ _ c.if-core-gt0.true c.popped-rest.ensures c.from-byte.ensures

pub returns-else-core-gt0 : goal.returns-else-core-gt0
returns-else-core-gt0 c = pop-misses _ _ _ c.if-core-gt0.false c.note_empty_read-noted.ensures
