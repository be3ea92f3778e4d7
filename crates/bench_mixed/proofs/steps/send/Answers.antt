-- `steps::send` meets its contract. Assumes nothing.
use borrow.Author.Tests.{eq-eqb, ne_eqb}
use Rattle.model.specs.Numbers.{choose}
use Rattle.bench_mixed.specs.Steps.{sending}
use Rattle.bench_mixed.proofs.steps.send.Goals as goal

pub returns-then-i-eq0 : goal.returns-then-i-eq0
unfolding sending choose
returns-then-i-eq0 c = rw (eq-eqb _ 0 c.if-i-eq0.true)

pub returns-else-i-eq0 : goal.returns-else-i-eq0
unfolding sending choose
returns-else-i-eq0 c = rw (ne_eqb _ 0 c.if-i-eq0.false)
