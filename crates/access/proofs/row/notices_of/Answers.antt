-- `row::notices_of` meets its contract. Assumes nothing.
use mathlib.Core.Path.{ap, ◌∙◌}
use lib.Dec.{ltb}
use Rattle.model.specs.Registers.{source_notes}
use Rattle.model.specs.declared.Unsupported.{Unsupported}
use Rattle.replies.specs.Notices.{noted, added_if}
use Rattle.access.specs.Row.{row-notices}
use Rattle.access.proofs.row.notices_of.Goals as goal

pub returns : goal.returns
returns c =
    let o = c.args in
    c.note_if.ensures
    ∙ ap (added_if (ltb 0 o.dropped) Unsupported.UartOverflow)
    (c.clock_notices-first.ensures ∙ ap (λ s. noted (source_notes Unsupported.UartClock s)) c.told.ensures)
    ∙ row-notices o.source o.sent o.dropped
