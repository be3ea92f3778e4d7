-- `send::send` meets its contract: dropped, or put at the back with its date. Assumes nothing.
use mathlib.Core.Path.{ap, ◌∙◌}
use Rattle.replies.specs.Notices.{noted}
use Rattle.model.specs.Registers.{source_notes}
use Rattle.model.specs.declared.Unsupported.{Unsupported}
use Rattle.access.specs.Sends.{drops-any, sends-any}
use Rattle.access.proofs.send.send.Goals as goal

pub returns-then-fifo_full : goal.returns-then-fifo_full
returns-then-fifo_full c =
    let o = c.args in
    drops-any o.cycle o.byte o.core _ _ c.fifo_full.ensures c.if-fifo_full.true
    c.overflow_notices-notices.ensures

pub returns-else-fifo_full : goal.returns-else-fifo_full
returns-else-fifo_full c =
    let o = c.args in
    sends-any o.cycle o.byte o.core _ _ c.fifo_full.ensures c.if-fifo_full.false
    c.gone_at_of.ensures c.back-at.ensures.0
    (c.clock_notices-notices.ensures ∙ ap (λ s. noted (source_notes Unsupported.UartClock s)) c.unmodelled_source.ensures)
    c.pushed-longer.ensures
