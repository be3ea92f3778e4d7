-- The loop of `input::run` keeps the UART within its limits, and the output its length. The count of turns gets less.
use Rattle.std.proofs.Common.{◌≡◌, length}
use Rattle.uart.specs.Whole.{Good}
use Rattle.replay.proofs.input.run.Given as goal

abbrev pub invariant-loop-turns : goal.invariant-loop-turns
invariant-loop-turns l = Good l.session.uart × (length l.out ≡ 65536)

abbrev pub decreases-loop-turns : goal.decreases-loop-turns
decreases-loop-turns l = l.turns
