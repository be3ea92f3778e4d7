-- `input::is_answered` meets its contract. Assumes nothing.
use mathlib.Core.Path.{ap, sym, ◌∙◌}
use mathlib.Core.Bool.{Bool, false}
use Rattle.text.specs.Input.{has_line}
use Rattle.text.specs.Pick.{pick}
use Rattle.replay.proofs.input.is_answered.Goals as goal

pub returns : goal.returns
returns c =
    c.has_line.ensures ∙ sym (ap (λ (b : Bool). pick b false (has_line c.args.input)) c.if-failed.false)
