-- What calls answer: document 01's numbers and values for each case of a reply, and the report of a dated call.
-- Assumes nothing.
use Rattle.std.specs.Prelude.{◌≡◌, ℕ, ◌-◌, true, false, List, ◌++◌, map, length, replicate, Some, None, Ok, Err}
use Rattle.model.specs.State.{Uart}
use Rattle.model.specs.declared.Feature.{Feature}
use Rattle.model.specs.declared.Unsupported.{Unsupported}
use Rattle.model.specs.declared.Unsupported.TheVariants.{UartOverflow, UartEmptyRead, UartClock, UartReceiveClock, UartFeature}
use Rattle.model.specs.declared.Notice.{Notice}
use Rattle.model.specs.declared.Refusal.{Refusal}
use Rattle.model.specs.declared.Refusal.TheVariants.{RepeatedOffset, DatePastEnd, DateWentBack, TransmitFull, HostFull, RunsFull}
use Rattle.model.specs.declared.Refusal.TheVariants.{PeriodTooLong, BufferTooShort}
use Rattle.model.specs.declared.Report.{Report}
use Rattle.model.specs.Names.{SetUp, Read, Write, Done, Taken}

-- document 01's numbers. Its own words: doubled place, past the end, clock went back, tray full, basket full, runs full,
-- slow clock, short buffer
unfoldable pub number : Refusal → ℕ
number RepeatedOffset = 1
number DatePastEnd = 2
number DateWentBack = 3
number TransmitFull = 4
number HostFull = 5
number RunsFull = 6
number PeriodTooLong = 7
number BufferTooShort = 8

-- ---- the report of a dated call

-- what unused places of the notices hold
abbrev pub unused : Notice
unused = record { what = UartOverflow }

abbrev pub notice_places : ℕ
notice_places = 8

unfoldable pub notices : List Unsupported → List Notice
notices ns = map (λ n. record { what = n }) ns ++ replicate (notice_places - length ns) unused

-- a report with these notices and no other
abbrev pub Notes : Report → List Unsupported → Type 0
Notes r ns = (r.notices ≡ notices ns) × (r.noted ≡ length ns)

-- a mode's number, from 0
abbrev pub mode_number : Feature → ℕ
mode_number Feature.Loopback = 0
mode_number Feature.InvertedRx = 1
mode_number Feature.Autobaud = 2
mode_number Feature.NoStopBit = 3
mode_number Feature.FifoSize = 4
mode_number Feature.Rs485 = 5
mode_number Feature.TxFlowControl = 6
mode_number Feature.RxFlowControl = 7
mode_number Feature.InvertedTx = 8
mode_number Feature.Irda = 9
mode_number Feature.TxBreak = 10

-- a notice in two numbers: what, from 1, and which SCLK_SEL or mode
unfoldable pub notice_numbers : Unsupported → ℕ × ℕ
notice_numbers UartOverflow = (1, 0)
notice_numbers UartEmptyRead = (2, 0)
notice_numbers (UartClock sel) = (3, sel)
notice_numbers (UartReceiveClock sel) = (4, sel)
notice_numbers (UartFeature mode) = (5, mode_number mode)

-- fixed, for a refused or an undated call
unfoldable pub no_report : Report
no_report = record { level = false; wake = None; overflows = 0; passes = 0; notices = replicate notice_places unused; noted = 0 }

-- of passes, overflows and notices; level and wake as the call leaves them
unfoldable pub report : {H W : Type 0} → ℕ → ℕ → List Unsupported → Uart H W → Report
report p o ns u =
    record { level = u.control.level; wake = u.control.wake; overflows = o; passes = p; notices = notices ns; noted = length ns }

-- ---- the replies

-- what a read gives: a word, a byte of the host, or nothing
pub data ReadOf (H : Type 0) : Type 0 where
  word : ℕ → ReadOf H
  byte : H → ReadOf H
  no_value : ReadOf H
  refused : Refusal → ReadOf H

-- the reply of the function: a byte is a word too
unfoldable pub as_read : ReadOf ℕ → Read
as_read (word n) = Ok (Some n)
as_read (byte b) = Ok (Some b)
as_read no_value = Ok None
as_read (refused r) = Err r

-- a lent buffer after the call: the bytes put at its front, and the rest as it was lent
pub record Take (W L : Type 0) : Type 0 where
  pub taken : Taken
  pub front : List W
  pub rest : List L

unfoldable pub contents : Take ℕ ℕ → List ℕ
contents t = t.front ++ t.rest

-- ---- the number of each case; 0 for done

unfoldable pub set_up_number : SetUp → ℕ
set_up_number (Ok _) = 0
set_up_number (Err r) = number r

unfoldable pub read_number : {H : Type 0} → ReadOf H → ℕ
read_number (word n) = 0
read_number (byte b) = 0
read_number no_value = 0
read_number (refused r) = number r

unfoldable pub write_number : Write → ℕ
write_number (Ok true) = 0
write_number (Ok false) = 0
write_number (Err r) = number r

unfoldable pub done_number : Done → ℕ
done_number (Ok _) = 0
done_number (Err r) = number r

unfoldable pub taken_number : Taken → ℕ
taken_number (Ok n) = 0
taken_number (Err r) = number r
