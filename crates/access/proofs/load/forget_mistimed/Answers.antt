-- `load::forget_mistimed` meets its contract, by the test. Assumes nothing.
use Rattle.model.specs.Numbers.{choose}
use Rattle.access.proofs.load.forget_mistimed.Goals as goal

pub returns-then-looks : goal.returns-then-looks
unfolding choose
returns-then-looks c = rw (c.if-looks.true, c.with_mistimed-line.ensures)

pub returns-else-looks : goal.returns-else-looks
unfolding choose
returns-else-looks c = rw c.if-looks.false
