-- `marks::note_source` meets its contract. Assumes nothing.
use Rattle.model.specs.Line.{note_source}
use Rattle.line.proofs.marks.note_source.Goals as goal

pub returns : goal.returns
unfolding note_source
returns c = rw c.latest.ensures
