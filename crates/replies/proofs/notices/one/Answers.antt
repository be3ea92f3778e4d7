-- `notices::one` meets its contract. Assumes nothing.
use mathlib.Core.Path.{ap, ◌∙◌}
use native.Mathlib.Omega.{arith}
use mathlib.Core.List.{[]}
use Rattle.replies.specs.NoticeLaws.{added-noted}
use Rattle.replies.specs.Notices.{added}
use Rattle.replies.proofs.notices.one.Goals as goal

pub returns : goal.returns
returns c = c.note.ensures ∙ ap (added _) c.none.ensures ∙ added-noted c.args.what [] (omega arith)
