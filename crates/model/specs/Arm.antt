-- The wake: the Deadline keeps the earliest date, and arming asks for the next instant at which the UART has something to
-- do. Assumes nothing.
use Rattle.std.specs.Prelude.{ℕ, zero, suc, ◌-◌, ◌&&◌, List, [], ◌∷◌, ltb, length, Some, None}
use Rattle.std.proofs.Math.Option.{Option, none, some}
use Rattle.dates.specs.Dates.{later}
use Rattle.model.specs.Numbers.{choose, only_if, due_by, earliest, in_cycles}
use Rattle.model.specs.State.{Sent, Run, OnTheLine, Uart, line_of}
use Rattle.model.specs.Setters.{with_wake, with_control}
use Rattle.model.specs.Line.{after_date, timeout_at}
use Rattle.model.specs.Settle.{empty_threshold, settings_of}
use Rattle.model.specs.Names.{Date}

-- a Deadline that is armed for a cycle keeps the earlier one
abbrev pub armed : Date → Date → Date
armed at wake = earliest wake at

-- a call at or after the armed cycle clears it
unfoldable pub called : ℕ → Date → Date
called now wake = choose (due_by now wake) None wake

-- when the n-th byte in flight has gone
unfoldable pub nth_gone : {W : Type 0} → ℕ → List (Sent W) → Date
nth_gone n [] = None
nth_gone zero (s ∷ ss) = Some s.gone_at
nth_gone (suc n) (s ∷ ss) = nth_gone n ss

unfoldable pub last_gone : {W : Type 0} → List (Sent W) → Date
last_gone ss = nth_gone (length ss - 1) ss

-- when the transmit FIFO falls below the threshold: not where it is below already, and never below 0
unfoldable pub below_threshold_at : {W : Type 0} → ℕ → List (Sent W) → Date
below_threshold_at threshold ss = only_if (ltb 0 threshold && ltb threshold (length ss)) (nth_gone (length ss - threshold - 1) ss)

-- when the next host byte starts, if one waits
unfoldable pub next_start : {H : Type 0} → ℕ → List Run → List H → Date
next_start free [] bs = None
next_start free (r ∷ rs) [] = None
next_start free (r ∷ rs) (b ∷ bs) = Some (later r.date free)

module _ {H W : Type 0} where
  unfoldable pub landing_of : ℕ → Option (OnTheLine H) → Uart H W → Date
  landing_of time none u = after_date time (next_start (line_of u).line_free_at u.host_runs u.host)
  landing_of time (some l) u = Some (line_of u).line_free_at

  -- when the byte on the line lands, or the next to start, timed with the settings of now
  unfoldable pub next_landing : Uart H W → Date
  next_landing u = landing_of (settings_of u).byte_time u.receiving u

  -- the instants that ask for a wake: the last byte leaves, the next one lands, an enabled timeout comes, the transmit
  -- FIFO falls below its threshold, and, watched, the first byte leaves
  unfoldable pub instants : Uart H W → List Date
  instants u =
      last_gone u.in_flight
      ∷ next_landing u
      ∷ only_if (settings_of u).rx_tout_en (timeout_at (settings_of u) (line_of u))
      ∷ below_threshold_at (empty_threshold u.control.words.conf1) u.in_flight
      ∷ only_if u.control.watched (nth_gone 0 u.in_flight)
      ∷ []

-- each instant in turn, as the cycle at which it has come
unfoldable pub arm_all : List Date → Date → Date
arm_all [] wake = wake
arm_all (d ∷ ds) wake = arm_all ds (armed (in_cycles d) wake)

unfoldable pub arm : {H W : Type 0} → Uart H W → Uart H W
arm u = with_control (with_wake (arm_all (instants u) u.control.wake) u.control) u
