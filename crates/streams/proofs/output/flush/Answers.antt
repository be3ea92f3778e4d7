-- The three ways in which `output::flush` ends.
use Rattle.streams.specs.Outputs.{Flushed}
use Rattle.streams.proofs.output.flush.Goals as goal

pub returns-then-output : goal.returns-then-output
returns-then-output c = Flushed.ended c.if-output.true

pub returns-then-write : goal.returns-then-write
returns-then-write c = Flushed.written c.if-output.false

pub returns : goal.returns
returns c = Flushed.broken c.if-output.false
