-- `call::put_set_up` meets its contract. Assumes nothing.
use mathlib.Core.Path.{ap, ◌∙◌}
use Rattle.theorems.specs.Blanked.{blank_resets}
use Rattle.blanking.specs.Entries.{numbers}
use Rattle.blanking.specs.Puts.{puts-same, puts-both}
use Rattle.blanking.proofs.call.put_set_up.Goals as goal

pub returns : goal.returns
returns c =
    puts-both _ _ _ _ _ _ _ _
    (puts-same _ _ _ _ _ _ (ap numbers c.sixteen.ensures)
    c.put_sixteen-offsets.ensures)
    (puts-same _ _ _ _ _ _
    (ap numbers (c.blank_resets.ensures ∙ ap blank_resets c.sixteen-2.ensures))
    c.put_sixteen.ensures)
