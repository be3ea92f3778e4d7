-- `steps::enable` meets its contract. Assumes nothing.
use borrow.Author.Tests.{eq-eqb, ne_eqb}
use Rattle.model.specs.Numbers.{choose}
use Rattle.bench_mixed.specs.Steps.{enabling}
use Rattle.bench_mixed.proofs.steps.enable.Goals as goal

pub returns-then-n-eq0 : goal.returns-then-n-eq0
unfolding enabling choose
returns-then-n-eq0 c = rw (eq-eqb _ 0 c.if-n-eq0.true)

pub returns-else-n-eq0 : goal.returns-else-n-eq0
unfolding enabling choose
returns-else-n-eq0 c = rw (ne_eqb _ 0 c.if-n-eq0.false)
