-- The three ways in which `output::keep_up` ends.
use Rattle.streams.specs.Outputs.{KeepsUp}
use Rattle.streams.proofs.output.keep_up.Goals as goal
use Rattle.streams.proofs.output.keep_up.Goals.{else-line-via-then-line+else-output-full, else-line-via-else-line}

pub returns-then-output-full : goal.returns-then-output-full
returns-then-output-full c = KeepsUp.waits c.if-line.true c.if-output-full.true

pub returns : goal.returns
returns c =
    elim c.else-line.branch [
      | else-line-via-then-line+else-output-full w ↦ KeepsUp.filled w.if-output-full.false c.flush.ensures
      | else-line-via-else-line w ↦ KeepsUp.no_line w.if-line.false c.flush.ensures
    ]
