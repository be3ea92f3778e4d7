-- Every call: its tests, its settlings, its work, its whole reply and the next state. Assumes nothing.
use Rattle.model.specs.declared.Source.{Source}
use Rattle.std.specs.Prelude.{ℕ, ◌+◌, ◌%◌, Bool, List, [], ◌∷◌, ◌++◌, map, leb, ltb, length, drop, Some, None, Ok, Err}
use Rattle.std.proofs.Math.Option.{Option, none, some}
use Rattle.dates.specs.Dates.{subcycles, later}
use Rattle.model.specs.Numbers.{choose}
use Rattle.model.specs.State.{Run, Uart}
use Rattle.model.specs.Setters.{with_int_raw, with_mistimed, with_idle_since, with_words, with_line, with_period, with_last, with_wake}
use Rattle.model.specs.Setters.{with_watched, with_powered_down_at, with_control, with_in_flight, with_tx, with_host, with_rx}
use Rattle.model.specs.Events.{Event, passes_in, overflows_in}
use Rattle.model.specs.Settle.{Settled, found, ended, settle, pending, levels}
use Rattle.model.specs.Arm.{called, arm}
use Rattle.model.specs.Replies.{no_report, report, ReadOf, refused, Take}
use Rattle.model.specs.Map.{Register, is_fifo, register_of}
use Rattle.model.specs.Registers.{Access, read_at, send_byte, write_register, concluded}
use Rattle.model.specs.Tests.{transmit_full, host_full, runs_full, period_too_long, buffer_too_short, refuse_if, refuse_date}
use Rattle.model.specs.Call.{Machine}
use Rattle.model.specs.declared.Line.{Line}
use Rattle.model.specs.declared.Control.{Control}
use Rattle.model.specs.declared.Refusal.{Refusal}
use Rattle.model.specs.declared.Refusal.TheVariants.{TransmitFull, HostFull, RunsFull, PeriodTooLong, BufferTooShort}
use Rattle.model.specs.declared.Report.{Report}
use Rattle.model.specs.Names.{Write, Done}

-- ---- what a call gives

pub record Outcome (R H W : Type 0) : Type 0 where
  pub reply : R
  pub report : Report
  pub state : Uart H W
  -- what its settlings found
  pub events : List (Event H W)

-- what a call is made of: the first of its own tests that refuses it, and its reply then; what it changes before each of its settlings;
-- and its work on the state that they leave
pub record Plan (R H W : Type 0) : Type 0 where
  pub test : Option Refusal
  pub refuses : Refusal → R
  pub changes : List (Uart H W → Uart H W)
  pub work : Uart H W → Access R H W

module _ {H W : Type 0} where
  -- a dated call that is carried out moves the last date
  unfoldable pub dated : ℕ → Uart H W → Uart H W
  dated now u = with_control (with_last now u.control) u

  -- one settling after the other, each of the state that the one before left, changed: what they find, and what the last one leaves
  abbrev pub settled_by : ℕ → List (Uart H W → Uart H W) → Settled H W → Settled H W
  settled_by now [] t = t
  settled_by now (f ∷ fs) t = settled_by now fs (found t.events (settle now (f t.state)))

-- tests 2 and 3 come first in a dated call
abbrev pub refusal_by : Option ℕ → Option Refusal → Control → Option Refusal
refusal_by none test c = test
refusal_by (some now) test c = refuse_date now c test

module _ {R H W : Type 0} where
  -- a refusal returns only its number; the state stays
  unfoldable pub refusing : R → Uart H W → Outcome R H W
  refusing r u = record { reply = r; report = no_report; state = u; events = [] }

  -- refused as the tests say, or carried out
  unfoldable pub unless : Option Refusal → (Refusal → R) → (Uart H W → Outcome R H W) → Uart H W → Outcome R H W
  unless none reply work u = work u
  unless (some r) reply work u = refusing (reply r) u

  -- settled, and then the work
  unfoldable pub after_settling : Settled H W → (Uart H W → Access R H W) → Outcome R H W
  after_settling t work = record {
    reply = (work t.state).reply;
    report = report (passes_in t.events) (overflows_in t.events) (work t.state).notes (work t.state).state;
    state = (work t.state).state;
    events = t.events;
  }

  -- where no test refuses it; an undated call answers its own result alone
  unfoldable pub carried : Option ℕ → Plan R H W → Uart H W → Outcome R H W
  carried none p u = record { reply = (p.work u).reply; report = no_report; state = (p.work u).state; events = [] }
  carried (some now) p u = after_settling (settled_by now p.changes (ended (dated now u))) p.work

  -- a call with its date, if it is dated
  unfoldable pub outcome : Option ℕ → Plan R H W → Uart H W → Outcome R H W
  outcome date p u = unless (refusal_by date p.test u.control) p.refuses (carried date p) u

-- ---- parts of calls that hold no state

-- the bytes join the last run where their date is no later than its
unfoldable pub joined : ℕ → ℕ → List Run → List Run
joined date n [] = record { date = date; count = n } ∷ []
joined date n (r ∷ []) =
    choose (leb date r.date) (record { date = r.date; count = r.count + n } ∷ []) (r ∷ record { date = date; count = n } ∷ [])
joined date n (r ∷ s ∷ rs) = r ∷ joined date n (s ∷ rs)

unfoldable pub last_date : List Run → ℕ
last_date [] = 0
last_date (r ∷ []) = r.date
last_date (r ∷ s ∷ rs) = last_date (s ∷ rs)

unfoldable pub host_date : ℕ → ℕ → ℕ
host_date now at = subcycles (later at now)

-- INT_RAW 0, the idle line closed, a mistimed reception forgotten; when the line is free stays
unfoldable pub cleared_line : Line → Line
cleared_line l = with_int_raw 0 (with_idle_since None (with_mistimed Source.None l))

-- a period of 0 counts as 1
abbrev pub period_of : ℕ → ℕ
period_of period = later period 1

-- the bytes at the front, and nothing written after them
unfoldable pub filled : {W L : Type 0} → List W → List L → Take W L
filled out lent = record { taken = Ok (length out); front = out; rest = drop (length out) lent }

unfoldable pub not_taken : {W L : Type 0} → List L → Refusal → Take W L
not_taken lent r = record { taken = Err r; front = []; rest = lent }

module _ {H W : Type 0} where
  unfoldable pub quiet : {R : Type 0} → R → Uart H W → Access R H W
  quiet r u = record { reply = r; notes = []; state = u }

  -- a call that settles once
  abbrev pub once : List (Uart H W → Uart H W)
  once = (λ s. s) ∷ []

  -- one that answers done
  abbrev pub doing : Option Refusal → List (Uart H W → Uart H W) → (Uart H W → Uart H W) → Plan Done H W
  doing test changes change = record { test = test; refuses = Err; changes = changes; work = λ s. quiet (Ok tt) (change s) }

  -- one that is never refused and changes nothing
  abbrev pub asking : {R : Type 0} → (Uart H W → R) → Uart H W → Plan R H W
  asking look u = record { test = none; refuses = λ r. look u; changes = []; work = λ s. quiet (look s) s }

  -- ---- register access

  unfoldable pub read_placed : ℕ → Register → Uart H W → Plan (ReadOf H) H W
  read_placed now p u = record { test = none; refuses = refused; changes = once; work = read_at p }

  abbrev pub writing : Option Refusal → (Uart H W → Access Write H W) → Plan Write H W
  writing test access = record { test = test; refuses = Err; changes = once; work = λ s. concluded (access s) }

  unfoldable pub write_placed : ℕ → Register → ℕ → Uart H W → Plan Write H W
  write_placed now p v u = writing none (write_register p v)

  -- a write to FIFO
  unfoldable pub send : ℕ → W → Uart H W → Plan Write H W
  send now b u = writing (refuse_if (transmit_full (length u.tx) (length u.in_flight)) TransmitFull none) (send_byte now b)

  -- ---- the host

  -- an empty hand-over settles and arms no wake
  unfoldable pub hand_over : ℕ → List H → Uart H W → Uart H W
  hand_over date [] u = u
  hand_over date (b ∷ bs) u = arm (with_host (u.host ++ (b ∷ bs)) (joined date (length (b ∷ bs)) u.host_runs) u)

  unfoldable pub receive : ℕ → ℕ → List H → Uart H W → Plan Done H W
  receive now at bs u =
      doing
      (refuse_if (host_full (length u.host) (length bs)) HostFull
      (refuse_if (runs_full (length bs) (length u.host_runs) (last_date u.host_runs) (host_date now at)) RunsFull none))
      once (hand_over (host_date now at) bs)

  unfoldable pub host_pending : Uart H W → Plan ℕ H W
  host_pending u = asking pending u

  -- ---- what the machine around the UART does

  unfoldable pub clocked : ℕ → Uart H W → Uart H W
  clocked period u = with_control (with_period (period_of period) u.control) u

  -- stored words as at reset; bytes in flight and received are dropped, the others stay
  unfoldable pub cleared : Uart H W → Uart H W
  cleared u =
      with_rx [] (with_in_flight [] (with_control (with_words u.map.reset (with_line (cleared_line u.control.line) u.control)) u))

  unfoldable pub machine : ℕ → Machine → Uart H W → Plan Done H W
  -- only a wake clears the Deadline
  machine now Machine.wake u = doing none ((λ s. with_control (with_wake (called now s.control.wake) s.control) s) ∷ []) arm
  -- a reset first ends a power-down and settles
  machine now Machine.reset u =
      doing none ((λ s. with_control (with_powered_down_at None s.control) s) ∷ []) (λ s. arm (levels (cleared s)))
  -- power-down neither settles nor arms
  machine now Machine.power_down u = doing none [] (λ s. with_control (with_powered_down_at (Some (subcycles now)) s.control) s)
  -- watching arms without settling
  machine now (Machine.watch b) u = doing none [] (λ s. arm (with_control (with_watched b s.control) s))
  -- settled with the old period, and again with the new one
  machine now (Machine.clock_change period) u =
      doing (refuse_if (period_too_long period) PeriodTooLong none) ((λ s. s) ∷ clocked period ∷ []) arm

  -- ---- taking what was sent

  unfoldable pub has_left : Uart H W → Plan Bool H W
  has_left u = asking (λ s. ltb 0 (length s.tx)) u

  -- all that was written: the bytes that left, and then those in flight. It does not settle
  unfoldable pub written : Uart H W → List W
  written u = u.tx ++ map (λ s. s.byte) u.in_flight

  module _ {L : Type 0} where
    abbrev pub taking : List L → List (Uart H W → Uart H W) → (Uart H W → Access (Take W L) H W) → Plan (Take W L) H W
    taking lent fs work =
        record {
          test = refuse_if (buffer_too_short (length lent)) BufferTooShort none;
          refuses = not_taken lent;
          changes = fs;
          work = work;
        }

    unfoldable pub take_tx : ℕ → List L → Uart H W → Plan (Take W L) H W
    take_tx now lent u = taking lent once (λ s. quiet (filled s.tx lent) (with_tx [] s))

    unfoldable pub take_written : List L → Uart H W → Plan (Take W L) H W
    take_written lent u = taking lent [] (λ s. quiet (filled (written s) lent) (with_tx [] (with_in_flight [] s)))

-- ---- register access as a caller makes it: the offset becomes a register first

unfoldable pub read : {H W : Type 0} → ℕ → ℕ → Uart H W → Plan (ReadOf H) H W
read now offset u = read_placed now (register_of u.map.offsets offset) u

-- a FIFO write's byte is its word's low 8 bits
unfoldable pub write_at : {H : Type 0} → ℕ → Register → ℕ → Uart H ℕ → Plan Write H ℕ
write_at now p v u = choose (is_fifo p) (send now (v % 256) u) (write_placed now p v u)

unfoldable pub write : {H : Type 0} → ℕ → ℕ → ℕ → Uart H ℕ → Plan Write H ℕ
write now offset v u = write_at now (register_of u.map.offsets offset) v u
