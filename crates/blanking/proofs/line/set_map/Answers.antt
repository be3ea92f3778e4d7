-- `line::set_map` meets its contract. Assumes nothing.
use mathlib.Core.Path.{sym, ◌∙◌}
use Rattle.blanking.specs.LineLaws.{after_same}
use Rattle.blanking.proofs.line.set_map.Goals as goal

pub returns-in-Ok : goal.returns-in-Ok
returns-in-Ok c = after_same _ _ _ _ (sym c.in-Ok.is ∙ c.set_up_reply-reply.ensures)

pub returns-in-Err : goal.returns-in-Err
returns-in-Err c = after_same _ _ _ _ (sym c.in-Err.is ∙ c.set_up_reply-reply.ensures)
