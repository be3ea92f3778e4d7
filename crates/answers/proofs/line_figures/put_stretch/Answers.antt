-- `line_figures::put_stretch` meets its contract: five texts, one after the other. Assumes nothing.
use Rattle.text.specs.Chains.{and_then}
use Rattle.answers.proofs.line_figures.put_stretch.Goals as goal

pub returns : goal.returns
returns c =
    and_then (and_then (and_then (and_then c.put_field-busy.ensures c.put_field-shortest.ensures) c.put_field-longest.ensures)
    c.put_field-quiet.ensures) c.put_place.ensures
