-- `Uart::host_pending` meets its contract. Assumes nothing.
use Rattle.uart.specs.Whole.{arrays_of}
use Rattle.uart.proofs.Uart.host_pending.Goals as goal

pub returns : goal.returns
returns c = c.host_pending.ensures (arrays_of c.args.self)
