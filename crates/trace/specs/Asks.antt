-- Of what a call asks: a set-up makes a UART, figures need none, and every other call is of the one that is set up. Assumes nothing.
use Rattle.trace.specs.declared.asks.Asks.{Asks}
use Rattle.trace.specs.declared.names.Name.{Name}
use Rattle.trace.specs.declared.names.Name.TheVariants.{Setup, Read, Write, WriteRow, Receive, Wake, Watch, Reset, PowerDown, Clock}
use Rattle.trace.specs.declared.names.Name.TheVariants.{TakeTx, TakeWritten, HasLeft, HostPending, Figures}

abbrev pub asks_of : Name → Asks
asks_of Setup = Asks.SetUp
asks_of Read = Asks.Uart
asks_of Write = Asks.Uart
asks_of WriteRow = Asks.Uart
asks_of Receive = Asks.Uart
asks_of Wake = Asks.Uart
asks_of Watch = Asks.Uart
asks_of Reset = Asks.Uart
asks_of PowerDown = Asks.Uart
asks_of Clock = Asks.Uart
asks_of TakeTx = Asks.Uart
asks_of TakeWritten = Asks.Uart
asks_of HasLeft = Asks.Uart
asks_of HostPending = Asks.Uart
asks_of Figures = Asks.Figures
