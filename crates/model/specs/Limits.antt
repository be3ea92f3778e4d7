-- Within the limits: document 01's list, all of it. Beside it stand only widths that the types give, where a law needs
-- them: sixteen offsets, and dates in flight, of runs and of the line that fit 64 bits. A source is 0, 2 or none by its
-- type, and the byte on the line lands when the line is free by the state's form. Assumes nothing.
use Rattle.std.specs.Prelude.{◌≡◌, ℕ, ◌+◌, ◌≤◌, ◌<◌, true, false, List, [], ◌∷◌, map, length, Some, None}
use Rattle.std.proofs.Math.Option.{some}
use Rattle.std.specs.Int.Bits.{bit_and}
use Rattle.dates.specs.Dates
use Rattle.model.specs.Events.{total}
use Rattle.model.specs.State.{Sent, Run, OnTheLine, Uart, line_of}
use Rattle.model.specs.Line.{fifo_bytes}
use Rattle.model.specs.Tests.{repeated, date_end, sent_limit, host_limit, runs_limit, period_limit}
use Rattle.model.specs.SetUp.{fifo_counts}
use Rattle.model.specs.Names.{Date}

-- each element stands in R to the next
pub data Chain (R : ℕ → ℕ → Type 0) : List ℕ → Type 0 where
  empty : Chain R []
  single : {n : ℕ} → Chain R (n ∷ [])
  link : {n m : ℕ} {ns : List ℕ} → R n m → Chain R (m ∷ ns) → Chain R (n ∷ m ∷ ns)

pub data All {A : Type 0} (P : A → Type 0) : List A → Type 0 where
  nil : All P []
  cons : {a : A} {l : List A} → P a → All P l → All P (a ∷ l)

abbrev pub NoLater : ℕ → Date → Type 0
NoLater n None = Unit {0}
NoLater n (Some d) = d ≤ n

abbrev pub flight_dates : {W : Type 0} → List (Sent W) → List ℕ
flight_dates ss = map (λ s. s.gone_at) ss

abbrev pub run_dates : List Run → List ℕ
run_dates rs = map (λ r. r.date) rs

abbrev pub run_counts : List Run → List ℕ
run_counts rs = map (λ r. r.count) rs

abbrev pub Fits : ℕ → Type 0
Fits d = d ≤ Dates.last

pub record Within {H W : Type 0} (u : Uart H W) : Type 0 where
  pub sixteen : length u.map.offsets ≡ 16
  pub offsets : repeated u.map.offsets ≡ false
  pub period_low : 1 ≤ u.control.period
  pub period_high : u.control.period ≤ period_limit
  pub last : u.control.last < date_end
  pub wake : NoLater date_end u.control.wake
  pub flying : length u.in_flight ≤ fifo_bytes + 1
  pub flying_dates : Chain ◌≤◌ (flight_dates u.in_flight)
  pub sent : length u.tx + length u.in_flight ≤ sent_limit
  pub received : length u.rx ≤ fifo_bytes
  pub runs : length u.host_runs ≤ runs_limit
  pub run_count : All (λ n. 1 ≤ n) (run_counts u.host_runs)
  pub run_order : Chain ◌<◌ (run_dates u.host_runs)
  pub run_sum : total (λ r. r.count) u.host_runs ≡ length u.host
  pub host : length u.host ≤ host_limit
  pub status : bit_and u.map.idle_status fifo_counts ≡ 0
  pub idle_line : (l : OnTheLine H) → u.receiving ≡ some l → l.frame.heard ≡ true → (line_of u).idle_since ≡ None
  pub flying_fits : All Fits (flight_dates u.in_flight)
  pub runs_fit : All Fits (run_dates u.host_runs)
  pub line_fits : Fits (line_of u).line_free_at
  pub idle_fits : NoLater Dates.last (line_of u).idle_since
