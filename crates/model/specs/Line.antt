-- What happens to the line's numbers and marks at a start, a landing and a timeout. No byte is here. Assumes nothing.
use Rattle.std.specs.Prelude.{ℕ, ◌^◌, Bool, ◌&&◌, not, ltb, Some, None}
use Rattle.std.specs.Int.Bits.{bit_or}
use Rattle.dates.specs.Dates.{after}
use Rattle.model.specs.Numbers.{choose}
use Rattle.model.specs.Setters.{with_int_raw, with_mistimed, with_idle_since, with_line_free_at}
use Rattle.model.specs.Names.{Date}
use Rattle.model.specs.declared.Source.{Source}
use Rattle.model.specs.declared.Line.{Line}
use Rattle.model.specs.declared.Frame.{Frame}
use Rattle.model.specs.declared.Settings.{Settings}
use Rattle.model.specs.declared.Fate.{Fate}
use Rattle.model.specs.declared.Fate.TheVariants.{Stored, Overflowed, Cleared, ClockOff, Unheard}

-- the bits of INT_RAW that are ever set
abbrev pub RXFIFO-FULL : ℕ
RXFIFO-FULL = 0

abbrev pub TXFIFO-EMPTY : ℕ
TXFIFO-EMPTY = 1

abbrev pub RXFIFO-OVF : ℕ
RXFIFO-OVF = 4

abbrev pub RXFIFO-TOUT : ℕ
RXFIFO-TOUT = 8

abbrev pub TX-DONE : ℕ
TX-DONE = 14

-- the bytes that each FIFO holds
abbrev pub fifo_bytes : ℕ
fifo_bytes = 128

-- a bit of INT_RAW rises where the test passes; none falls
unfoldable pub raise_if : Bool → ℕ → Line → Line
raise_if test n l = with_int_raw (choose test (bit_or l.int_raw (2 ^ n)) l.int_raw) l

-- the later source of a mistimed reception overwrites the one before
abbrev pub latest : Source → Source → Source
latest Source.None old = old
latest Source.Sel0 old = Source.Sel0
latest Source.Sel2 old = Source.Sel2

unfoldable pub note_source : Source → Line → Line
note_source s l = with_mistimed (latest s l.rx_mistimed) l

-- a while after a date, if there is one
unfoldable pub after_date : ℕ → Date → Date
after_date span None = None
after_date span (Some at) = Some (after at span)

-- the idle line opens at the landing
unfoldable pub opened : Frame → Line → Line
opened f l = note_source f.timed_on (with_idle_since (Some l.line_free_at) l)

module _ (s : Settings) where
  -- when the timeout of the open idle line comes
  unfoldable pub timeout_at : Line → Date
  timeout_at l = after_date s.timeout_time l.idle_since

  -- the timeout comes: the idle line closes, even where nothing is raised. Enabled and with the clock on it shows the
  -- source that timed it, and with a byte held it raises RXFIFO_TOUT
  unfoldable pub time_out : ℕ → Line → Line
  time_out held l =
      choose (s.rx_tout_en && s.rx_sclk_en)
      (raise_if (ltb 0 held) RXFIFO-TOUT (note_source s.source (with_idle_since None l)))
      (with_idle_since None l)

  -- a frame that starts now: who timed it, and whether it is heard
  unfoldable pub frame : Frame
  frame = record { timed_on = s.source; heard = s.rx_sclk_en }

  -- a start bit comes at a date: a heard one closes the idle line, and the line is free when the frame ends
  unfoldable pub start : ℕ → Line → Line
  start at l =
      with_line_free_at (after at s.byte_time)
      (choose s.rx_sclk_en (note_source s.source (with_idle_since None l)) l)

  -- what becomes of a byte that lands where so many are held
  unfoldable pub fate : ℕ → Frame → Fate
  fate held f =
      choose f.heard
      (choose s.rx_sclk_en
      (choose s.rxfifo_rst Cleared (choose (ltb held fifo_bytes) Stored Overflowed))
      ClockOff)
      Unheard

  -- RXFIFO_OVF rises at an overflow only with DIS_RX_DAT_OVF clear; with the clock off at start or landing no idle line opens
  unfoldable pub land : Fate → Frame → Line → Line
  land Stored f l = opened f l
  land Overflowed f l = opened f (raise_if (not s.dis_rx_dat_ovf) RXFIFO-OVF l)
  land Cleared f l = opened f l
  land ClockOff f l = l
  land Unheard f l = l
