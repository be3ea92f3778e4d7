-- `input::gather` meets its contract. Assumes nothing.
use mathlib.Core.Path.{◌∙◌}
use Rattle.text.proofs.input.gather.Goals as goal

pub returns : goal.returns
returns c =
    let n = c.within-n.ensures.value in
    let g = c.add_piece.ensures in
    record { value = g.value ∙ rw n; line_after = g.line_after ∙ rw n }
