-- `words::status_word` meets its contract: the counts fit their fields. Assumes nothing.
use mathlib.Core.Path.{ap, ◌∙◌}
use Prim.Native.Nat.{◌*◌, ◌^◌}
use native.Mathlib.Omega.{arith}
use lib.Bits.{bit_or}
use lib.Pow.{shl_exact}
use Rattle.model.specs.Registers.{status_word}
use Rattle.model.specs.Settle.{in_fifo}
use Rattle.registers.proofs.words.status_word.Goals as goal

pub overflow_cast-in_fifo : goal.overflow_cast-in_fifo
unfolding in_fifo
overflow_cast-in_fifo c = omega (arith, c.in_fifo-in_fifo.ensures)

pub returns : goal.returns
unfolding status_word in_fifo
returns c =
    ap (λ n. bit_or (bit_or c.args.idle_status n) c.args.received)
    (shl_exact 8 16 32 (omega (arith, c.in_fifo-in_fifo.ensures)) (omega arith) ∙ ap (λ n. n * 2 ^ 16) c.in_fifo-in_fifo.ensures)
