-- `steps::handle` meets its contract. Assumes nothing.
use borrow.Author.Tests.{eq-eqb, ne_eqb}
use Rattle.model.specs.Numbers.{choose}
use Rattle.bench_mixed.specs.Steps.{handling}
use Rattle.bench_mixed.proofs.steps.handle.Goals as goal

pub returns-in-0 : goal.returns-in-0
unfolding handling choose
returns-in-0 c = rw c.in-0.is

pub returns-in-1 : goal.returns-in-1
unfolding handling choose
returns-in-1 c = rw c.in-1.is

pub returns-in-2 : goal.returns-in-2
unfolding handling choose
returns-in-2 c = rw c.in-2.is

pub returns-then-notes-eq0 : goal.returns-then-notes-eq0
unfolding handling choose
returns-then-notes-eq0 c = rw (c.in-3.is, eq-eqb _ 0 c.if-notes-eq0.true)

pub returns-else-notes-eq0 : goal.returns-else-notes-eq0
unfolding handling choose
returns-else-notes-eq0 c = rw (c.in-3.is, ne_eqb _ 0 c.if-notes-eq0.false)

pub returns-in_default : goal.returns-in_default
unfolding handling choose
returns-in_default c =
    let no = c.in_default.in_default-own.rest in
    rw (ne_eqb _ 0 no.0.0.0.1, ne_eqb _ 1 no.0.0.1, ne_eqb _ 2 no.0.1, ne_eqb _ 3 no.1)
