-- `steps::step_at` meets its contract. Assumes nothing.
use borrow.Author.Tests.{lt-ltb, le-ltb}
use Rattle.model.specs.Numbers.{choose}
use Rattle.bench_mixed.specs.Steps.{step_at}
use Rattle.bench_mixed.proofs.steps.step_at.Goals as goal

pub returns-then-n-lt2 : goal.returns-then-n-lt2
unfolding step_at choose
returns-then-n-lt2 c = rw (lt-ltb _ 2 c.if-n-lt2.true, c.enable.ensures)

pub returns : goal.returns
unfolding step_at choose
returns c = rw (le-ltb _ 2 c.if-n-lt2.false, c.step_in_row.ensures, c.place.ensures.0)
