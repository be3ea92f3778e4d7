-- `steps::cycle_at` meets its contract. Assumes nothing.
use native.Mathlib.Omega.{arith}
use borrow.Author.Tests.{lt-ltb, le-ltb}
use Rattle.model.specs.Numbers.{choose}
use Rattle.bench_mixed.specs.Steps.{cycle_at}
use Rattle.bench_mixed.proofs.steps.cycle_at.Goals as goal

pub returns-then-n-lt2 : goal.returns-then-n-lt2
unfolding cycle_at choose
returns-then-n-lt2 c = (rw (lt-ltb _ 2 c.if-n-lt2.true), omega arith)

pub returns : goal.returns
unfolding cycle_at choose
returns c = (
  rw (le-ltb _ 2 c.if-n-lt2.false, c.offset_at.ensures.0, c.place.ensures.0),
  omega (arith, c.offset_at.ensures.1, c.requires),
)
