-- What follows each call's name. Assumes nothing.
use Rattle.std.specs.Prelude.{ℕ, ◌≤◌}
use Rattle.std.proofs.Common.{arith}
use Rattle.trace.specs.declared.names.Name.{Name}
use Rattle.trace.specs.declared.names.Name.TheVariants.{Setup, Read, Write, WriteRow, Receive, Wake, Watch, Reset, PowerDown, Clock}
use Rattle.trace.specs.declared.names.Name.TheVariants.{TakeTx, TakeWritten, HasLeft, HostPending, Figures}
use Rattle.trace.specs.declared.arguments.Last.{Last}
use Rattle.trace.specs.declared.arguments.Last.TheVariants.{None, Bit, Length, Bytes, Pairs}
use Rattle.trace.specs.declared.arguments.Form.{Form}

-- numbers, `count` in all, of which the first `wide` have 64 bits and the others 32; and a last word of another kind
abbrev pub takes : ℕ → ℕ → Last → Form
takes wide count last = record { wide = wide; count = count; last = last }

unfoldable pub form_of : Name → Form
form_of Setup = takes 0 32 None
form_of Read = takes 1 2 None
form_of Write = takes 1 3 None
form_of WriteRow = takes 1 1 Bytes
form_of Receive = takes 2 2 Bytes
form_of Wake = takes 1 1 None
form_of Watch = takes 1 1 Bit
form_of Reset = takes 1 1 None
form_of PowerDown = takes 1 1 None
form_of Clock = takes 2 2 None
form_of TakeTx = takes 1 1 Length
form_of TakeWritten = takes 0 0 Length
form_of HasLeft = takes 0 0 None
form_of HostPending = takes 0 0 None
form_of Figures = takes 0 0 Pairs

-- ---- laws

-- the numbers of each call fit 32 places
pub count_fits : (n : Name) → (form_of n).count ≤ 32
unfolding form_of
count_fits Setup = omega arith
count_fits Read = omega arith
count_fits Write = omega arith
count_fits WriteRow = omega arith
count_fits Receive = omega arith
count_fits Wake = omega arith
count_fits Watch = omega arith
count_fits Reset = omega arith
count_fits PowerDown = omega arith
count_fits Clock = omega arith
count_fits TakeTx = omega arith
count_fits TakeWritten = omega arith
count_fits HasLeft = omega arith
count_fits HostPending = omega arith
count_fits Figures = omega arith
