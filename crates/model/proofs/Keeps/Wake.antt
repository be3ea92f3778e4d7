-- Arming keeps a state within the limits: every instant that it asks for fits 64 bits in subcycles, so its cycle is at most
-- 2^59. Assumes nothing.
use Rattle.std.specs.Prelude.{ℕ, zero, suc, Bool, true, false, List, [], ◌∷◌, Some, None}
use Rattle.std.proofs.Math.Nat.{min-le_left, min-le_right}
use Rattle.std.proofs.Common.{le_trans}
use Rattle.std.proofs.Math.Option.{Option, none, some}
use Rattle.dates.specs.Dates
use Rattle.dates.specs.Laws.{cycles-bound}
use Rattle.model.specs.Numbers.{only_if, earliest, in_cycles}
use Rattle.model.specs.State.{Sent, OnTheLine, Uart, line_of}
use Rattle.model.specs.Line.{after_date, timeout_at}
use Rattle.model.specs.Arm.{called, nth_gone, last_gone, below_threshold_at, landing_of, next_landing, instants, arm_all, arm}
use Rattle.model.specs.Tests.{date_end}
use Rattle.model.specs.Limits.{All, nil, cons, NoLater, flight_dates, Fits, Within}
use Rattle.model.proofs.Laws.Choose.{choose-ind}
use Rattle.model.proofs.Keeps.Parts.{Parts, put_clock, through}
use Rattle.model.specs.Names.{Date}

-- a date of 64 bits, if there is one
abbrev DateFits : Date → Type 0
DateFits d = NoLater Dates.last d

-- ---- the instants

nth_gone-fits : {W : Type 0} (n : ℕ) (ss : List (Sent W)) → All Fits (flight_dates ss) → DateFits (nth_gone n ss)
unfolding nth_gone
nth_gone-fits zero [] a = tt
nth_gone-fits (suc n) [] a = tt
nth_gone-fits zero (s ∷ ss) (cons p a) = p
nth_gone-fits (suc n) (s ∷ ss) (cons p a) = nth_gone-fits n ss a

only_if-fits : (b : Bool) (d : Date) → DateFits d → DateFits (only_if b d)
unfolding only_if
only_if-fits true d h = h
only_if-fits false d h = tt

-- a sum is held at the last date
after_date-fits : (span : ℕ) (d : Date) → DateFits (after_date span d)
unfolding after_date
after_date-fits span None = tt
after_date-fits span (Some d) = min-le_right _ _

module _ {H W : Type 0} (u : Uart H W) where
  landing_of-fits : (time : ℕ) (l : Option (OnTheLine H)) → Fits (line_of u).line_free_at → DateFits (landing_of time l u)
  unfolding landing_of
  landing_of-fits time none h = after_date-fits time _
  landing_of-fits time (some l) h = h

  instants-fit : All Fits (flight_dates u.in_flight) → Fits (line_of u).line_free_at → All DateFits (instants u)
  unfolding instants next_landing last_gone below_threshold_at timeout_at
  instants-fit a h =
      cons (nth_gone-fits _ u.in_flight a)
      (cons (landing_of-fits _ u.receiving h)
      (cons (only_if-fits _ _ (after_date-fits _ _))
      (cons (only_if-fits _ _ (nth_gone-fits _ u.in_flight a)) (cons (only_if-fits _ _ (nth_gone-fits 0 u.in_flight a)) nil))))

-- ---- the wake

earliest-within : (n : ℕ) (c d : Date) → NoLater n c → NoLater n d → NoLater n (earliest c d)
unfolding earliest
earliest-within n None d h k = k
earliest-within n (Some a) None h k = h
earliest-within n (Some a) (Some b) h k = le_trans (min-le_left a b) h

in_cycles-within : (d : Date) → DateFits d → NoLater date_end (in_cycles d)
unfolding in_cycles
in_cycles-within None h = tt
in_cycles-within (Some d) h = cycles-bound d h

arm_all-within : (ds : List Date) (wake : Date) → All DateFits ds → NoLater date_end wake → NoLater date_end (arm_all ds wake)
unfolding arm_all
arm_all-within [] wake a h = h
arm_all-within (d ∷ ds) wake (cons p a) h = arm_all-within ds _ a (earliest-within date_end wake (in_cycles d) h (in_cycles-within d p))

pub called-within : (now : ℕ) (wake : Date) → NoLater date_end wake → NoLater date_end (called now wake)
unfolding called
called-within now wake h = choose-ind (NoLater date_end) _ (λ _. tt) (λ _. h)

module _ {H W : Type 0} (u : Uart H W) where
  pub arm-parts : Parts u → Parts (arm u)
  unfolding arm
  arm-parts p =
      put_clock p (record {
        low = p.clock.low;
        high = p.clock.high;
        last = p.clock.last;
        wake = arm_all-within (instants u) u.control.wake (instants-fit u p.flight.fit p.line.free) p.clock.wake;
      })

  -- arming keeps a state within the limits
  pub arm_within : Within u → Within (arm u)
  arm_within w = through u _ arm-parts w
