-- `steps::step_in_row` meets its contract. Assumes nothing.
use borrow.Author.Tests.{lt-ltb, le-ltb, eq-eqb, ne_eqb}
use Rattle.model.specs.Numbers.{choose}
use Rattle.bench_mixed.specs.Steps.{in_row}
use Rattle.bench_mixed.proofs.steps.step_in_row.Goals as goal

pub returns-then-i-lt32 : goal.returns-then-i-lt32
unfolding in_row choose
returns-then-i-lt32 c = rw (lt-ltb _ 32 c.if-i-lt32.true, c.send.ensures)

pub returns-then-i-eq32 : goal.returns-then-i-eq32
unfolding in_row choose
returns-then-i-eq32 c = rw (le-ltb _ 32 c.if-i-lt32.false, eq-eqb _ 32 c.if-i-eq32.true)

pub returns-then-i-lt133 : goal.returns-then-i-lt133
unfolding in_row choose
returns-then-i-lt133 c =
    rw (
      le-ltb _ 32 c.if-i-lt32.false,
      ne_eqb _ 32 c.if-i-eq32.false,
      lt-ltb _ 133 c.if-i-lt133.true,
      c.handle.ensures,
    )

pub returns-else-i-lt133 : goal.returns-else-i-lt133
unfolding in_row choose
returns-else-i-lt133 c = rw (le-ltb _ 32 c.if-i-lt32.false, ne_eqb _ 32 c.if-i-eq32.false, le-ltb _ 133 c.if-i-lt133.false)
