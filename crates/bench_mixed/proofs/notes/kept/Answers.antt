-- `notes::kept` meets its contract. Assumes nothing.
use borrow.Author.Tests.{eq-eqb, ne_eqb}
use Rattle.model.specs.Numbers.{choose}
use Rattle.bench_mixed.specs.Notes.{kept_of}
use Rattle.bench_mixed.proofs.notes.kept.Goals as goal

pub returns-then-offset-place : goal.returns-then-offset-place
unfolding kept_of choose
returns-then-offset-place c = rw (eq-eqb _ _ c.if-offset-place.true)

pub returns-else-offset-place : goal.returns-else-offset-place
unfolding kept_of choose
returns-else-offset-place c = rw (ne_eqb _ _ c.if-offset-place.false)
