-- `Uart::has_left` meets its contract. Assumes nothing.
use Rattle.uart.specs.Whole.{arrays_of}
use Rattle.uart.proofs.Uart.has_left.Goals as goal

pub returns : goal.returns
returns c = c.has_left.ensures (arrays_of c.args.self)
