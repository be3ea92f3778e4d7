-- `source_of` meets its contract. Assumes nothing.
use borrow.Author.Tests.{eq-eqb, ne_eqb}
use Rattle.model.specs.Numbers.{choose}
use Rattle.ffi.specs.Plain.{source_of}
use Rattle.ffi.proofs.source_of.Goals as goal

pub returns-then-code-eq1 : goal.returns-then-code-eq1
unfolding source_of choose
returns-then-code-eq1 c = rw (eq-eqb _ 1 c.if-code-eq1.true)

pub returns-then-code-eq3 : goal.returns-then-code-eq3
unfolding source_of choose
returns-then-code-eq3 c = rw (ne_eqb _ 1 c.if-code-eq1.false, eq-eqb _ 3 c.if-code-eq3.true)

pub returns : goal.returns
unfolding source_of choose
returns c = rw (ne_eqb _ 1 c.if-code-eq1.false, ne_eqb _ 3 c.if-code-eq3.false)
