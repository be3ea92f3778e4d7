-- `modes::refuse_if` meets its contract. Assumes nothing.
use mathlib.Core.Path.{ap, ◌∙◌}
use native.Mathlib.Omega.{arith}
use mathlib.Core.List.{[]}
use Rattle.replies.specs.NoticeLaws.{added-if-noted}
use Rattle.replies.specs.Notices.{added_if}
use Rattle.replies.proofs.modes.refuse_if.Goals as goal

pub returns : goal.returns
returns c =
    c.note_if.ensures ∙ ap (added_if _ _) c.none.ensures ∙ added-if-noted c.args.test _ [] (omega arith)
