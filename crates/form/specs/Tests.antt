-- Whether a state is within the limits, as a test. That it passes exactly where Within, Limits, holds is proved (Laws/Within). Assumes
-- nothing.
use Rattle.std.specs.Prelude.{ℕ, ◌+◌, Bool, true, false, ◌&&◌, ◌||◌, not, List, [], ◌∷◌, leb, ltb, eqb, length, Some, None}
use Rattle.std.proofs.Math.Option.{Option, none, some}
use Rattle.std.specs.Int.Bits.{bit_and}
use Rattle.model.specs.Events.{total}
use Rattle.model.specs.State.{OnTheLine, Uart, line_of}
use Rattle.model.specs.Line.{fifo_bytes}
use Rattle.model.specs.Tests.{repeated, date_end, sent_limit, host_limit, runs_limit, period_limit}
use Rattle.model.specs.SetUp.{fifo_counts}
use Rattle.model.specs.Limits.{flight_dates, run_dates, run_counts}
use Rattle.model.specs.Names.{Date}

-- each passes the test with the next
unfoldable pub chained : (ℕ → ℕ → Bool) → List ℕ → Bool
chained r [] = true
chained r (n ∷ []) = true
chained r (n ∷ m ∷ ns) = r n m && chained r (m ∷ ns)

unfoldable pub every : (ℕ → Bool) → List ℕ → Bool
every p [] = true
every p (n ∷ ns) = p n && every p ns

abbrev pub no_later : ℕ → Date → Bool
no_later n None = true
no_later n (Some d) = leb d n

abbrev pub is_none : Date → Bool
is_none None = true
is_none (Some d) = false

-- no idle line is open beside a heard byte on the line
abbrev pub closed : {H : Type 0} → Option (OnTheLine H) → Date → Bool
closed none idle = true
closed (some l) idle = not l.frame.heard || is_none idle

unfoldable pub all_pass : List Bool → Bool
all_pass [] = true
all_pass (t ∷ ts) = t && all_pass ts

module _ {H W : Type 0} where
  -- document 01's list, in the order of Within; that there are sixteen offsets and that dates fit 64 bits is how they are read
  unfoldable pub limits : Uart H W → List Bool
  limits u =
      not (repeated u.map.offsets)
      ∷ leb 1 u.control.period
      ∷ leb u.control.period period_limit
      ∷ ltb u.control.last date_end
      ∷ no_later date_end u.control.wake
      ∷ leb (length u.in_flight) (fifo_bytes + 1)
      ∷ chained leb (flight_dates u.in_flight)
      ∷ leb (length u.tx + length u.in_flight) sent_limit
      ∷ leb (length u.rx) fifo_bytes
      ∷ leb (length u.host_runs) runs_limit
      ∷ every (leb 1) (run_counts u.host_runs)
      ∷ chained ltb (run_dates u.host_runs)
      ∷ eqb (total (λ r. r.count) u.host_runs) (length u.host)
      ∷ leb (length u.host) host_limit
      ∷ eqb (bit_and u.map.idle_status fifo_counts) 0
      ∷ closed u.receiving (line_of u).idle_since
      ∷ []

  unfoldable pub is_within : Uart H W → Bool
  is_within u = all_pass (limits u)
