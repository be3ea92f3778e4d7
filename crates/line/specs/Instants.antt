-- The instants that ask for a wake, as functions of numbers and marks, joined to the definition's, which are of the
-- queues. Assumes nothing.
use Rattle.std.specs.Prelude.{◌≡◌, ℕ, ◌-◌, ◌<◌, Bool, true, false, ◌&&◌, List, [], ◌∷◌, ltb, length, Some, None}
use Rattle.std.proofs.Math.Path.{refl}
use Rattle.std.proofs.Common.{arith, ltb-true}
use Rattle.std.proofs.Math.Option.{Option, none, some}
use Rattle.dates.specs.Dates.{later}
use Rattle.model.specs.Numbers.{choose, only_if}
use Rattle.model.specs.State.{Sent, Run, OnTheLine, Uart, line_of}
use Rattle.model.specs.Line.{after_date, timeout_at}
use Rattle.model.specs.Settle.{empty_threshold, settings_of}
use Rattle.model.specs.Arm
use Rattle.model.specs.Arm.{nth_gone, last_gone, below_threshold_at, landing_of, instants}
use Rattle.model.specs.Names.{Date}
use Rattle.model.specs.declared.Line.{Line}
use Rattle.line.specs.Names.{Receiving, Below}
use Rattle.line.specs.Applied.{waiting, mark}

-- ---- the fall below the transmit threshold

-- which byte in flight takes the transmit FIFO below its threshold: not where it is below already, and never below 0
unfoldable pub below_threshold : ℕ → ℕ → Below
below_threshold threshold flying = choose (ltb 0 threshold && ltb threshold flying) (Some (flying - threshold - 1)) None

-- when that byte has gone
unfoldable pub gone_below : {W : Type 0} → Below → List (Sent W) → Date
gone_below None ss = None
gone_below (Some n) ss = nth_gone n ss

chosen-below : {W : Type 0} (t : Bool) (n : ℕ) (ss : List (Sent W))
    → only_if t (nth_gone n ss) ≡ gone_below (choose t (Some n) None) ss
unfolding only_if choose gone_below
chosen-below true n ss = refl
chosen-below false n ss = refl

pub below_at : {W : Type 0} (threshold : ℕ) (ss : List (Sent W))
    → below_threshold_at threshold ss ≡ gone_below (below_threshold threshold (length ss)) ss
unfolding below_threshold_at below_threshold
below_at threshold ss = chosen-below (ltb 0 threshold && ltb threshold (length ss)) _ ss

chosen-within : (a b : Bool) (threshold flying n : ℕ) → (b ≡ true → threshold < flying)
    → choose (a && b) (Some (flying - threshold - 1)) None ≡ Some n → n < flying
unfolding choose
chosen-within false b threshold flying n h e = let z : ◌≡◌ {A = ℕ} 0 1 = cc in absurd (omega arith)
chosen-within true false threshold flying n h e = let z : ◌≡◌ {A = ℕ} 0 1 = cc in absurd (omega arith)
chosen-within true true threshold flying n h e =
    let below : threshold < flying = h refl in
    let same : flying - threshold - 1 ≡ n = cc in
    omega arith

-- it is one of those in flight
pub below-within : (threshold flying n : ℕ) → below_threshold threshold flying ≡ Some n → n < flying
unfolding below_threshold
below-within threshold flying n e = chosen-within (ltb 0 threshold) (ltb threshold flying) threshold flying n (ltb-true threshold flying) e

-- ---- the next landing

-- when the next host byte starts, if one waits: at its run's date, or when the line is free
unfoldable pub next_start : ℕ → Date → Date
next_start free None = None
next_start free (Some run) = Some (later run free)

-- when the byte on the line lands, or the next to start
unfoldable pub next_landing : ℕ → Receiving → Date → Line → Date
next_landing time None next l = after_date time (next_start l.line_free_at next)
next_landing time (Some f) next l = Some l.line_free_at

start-at : {H : Type 0} (free : ℕ) (rs : List Run) (bs : List H) → Arm.next_start free rs bs ≡ next_start free (waiting rs bs)
unfolding Arm.next_start next_start waiting
start-at free [] bs = refl
start-at free (r ∷ rs) [] = refl
start-at free (r ∷ rs) (b ∷ bs) = refl

module _ {H W : Type 0} where
  landing-by : (time : ℕ) (o : Option (OnTheLine H)) (u : Uart H W)
      → landing_of time o u ≡ next_landing time (mark o) (waiting u.host_runs u.host) (line_of u)
  unfolding landing_of next_landing mark
  landing-by time none u = rw (start-at (line_of u).line_free_at u.host_runs u.host)
  landing-by time (some l) u = refl

  pub landing-at : (u : Uart H W)
      → Arm.next_landing u ≡ next_landing (settings_of u).byte_time (mark u.receiving) (waiting u.host_runs u.host) (line_of u)
  unfolding Arm.next_landing
  landing-at u = landing-by (settings_of u).byte_time u.receiving u

  -- ---- all of them

  pub instants-are : (u : Uart H W)
      → instants u
      ≡ last_gone u.in_flight
      ∷ next_landing (settings_of u).byte_time (mark u.receiving) (waiting u.host_runs u.host) (line_of u)
      ∷ only_if (settings_of u).rx_tout_en (timeout_at (settings_of u) (line_of u))
      ∷ gone_below (below_threshold (empty_threshold u.control.words.conf1) (length u.in_flight)) u.in_flight
      ∷ only_if u.control.watched (nth_gone 0 u.in_flight)
      ∷ []
  unfolding instants
  instants-are u = rw (landing-at u, below_at (empty_threshold u.control.words.conf1) u.in_flight)
