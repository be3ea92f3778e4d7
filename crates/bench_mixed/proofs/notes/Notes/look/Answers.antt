-- `Notes::look` meets its contract. Assumes nothing.
use Rattle.bench_mixed.proofs.notes.Notes.look.Goals as goal

pub returns : goal.returns
returns c = rw (c.add.ensures, c.kept.ensures, c.kept-2.ensures)
