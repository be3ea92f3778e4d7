-- `steps::offset_at` meets its contract. Assumes nothing.
use native.Mathlib.Omega.{arith}
use borrow.Author.Tests.{lt-ltb, le-ltb, eq-eqb, ne_eqb}
use Rattle.model.specs.Numbers.{choose}
use Rattle.bench_mixed.specs.Steps.{offset_at}
use Rattle.bench_mixed.proofs.steps.offset_at.Goals as goal

pub returns-then-i-lt32 : goal.returns-then-i-lt32
unfolding offset_at choose
returns-then-i-lt32 c = (rw (lt-ltb _ 32 c.if-i-lt32.true), omega (arith, c.if-i-lt32.true))

pub returns-then-i-eq32 : goal.returns-then-i-eq32
unfolding offset_at choose
returns-then-i-eq32 c = (rw (le-ltb _ 32 c.if-i-lt32.false, eq-eqb _ 32 c.if-i-eq32.true), omega arith)

pub returns-then-i-lt133 : goal.returns-then-i-lt133
unfolding offset_at choose
returns-then-i-lt133 c = (
  rw (le-ltb _ 32 c.if-i-lt32.false, ne_eqb _ 32 c.if-i-eq32.false, lt-ltb _ 133 c.if-i-lt133.true),
  omega arith,
)

pub returns-else-i-lt133 : goal.returns-else-i-lt133
unfolding offset_at choose
returns-else-i-lt133 c = (
  rw (le-ltb _ 32 c.if-i-lt32.false, ne_eqb _ 32 c.if-i-eq32.false, le-ltb _ 133 c.if-i-lt133.false),
  omega arith,
)
