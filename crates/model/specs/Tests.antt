-- The tests that refuse a call: functions of numbers, read from the state before settling. The order is 2, 3, 7, 8, 4, 5, 6.
-- Assumes nothing.
use Rattle.std.specs.Prelude.{ℕ, ◌+◌, ◌^◌, Bool, true, false, ◌&&◌, ◌||◌, List, [], ◌∷◌, leb, ltb, eqb}
use Rattle.std.proofs.Math.Option.{Option, some}
use Rattle.model.specs.declared.Control.{Control}
use Rattle.model.specs.declared.Refusal.{Refusal}
use Rattle.model.specs.declared.Refusal.TheVariants.{DatePastEnd, DateWentBack}

-- 1: two of the sixteen offsets are equal
unfoldable pub among : ℕ → List ℕ → Bool
among o [] = false
among o (p ∷ ps) = eqb o p || among o ps

unfoldable pub repeated : List ℕ → Bool
repeated [] = false
repeated (o ∷ os) = among o os || repeated os

-- 2: now is 2^59 or more
abbrev pub date_end : ℕ
date_end = 2 ^ 59

abbrev pub past_end : ℕ → Bool
past_end now = leb date_end now

-- 3: now is below the last carried-out date
abbrev pub went_back : ℕ → ℕ → Bool
went_back last now = ltb now last

-- 4: bytes left and in flight total 1,152
abbrev pub sent_limit : ℕ
sent_limit = 1152

unfoldable pub transmit_full : ℕ → ℕ → Bool
transmit_full left flying = leb sent_limit (left + flying)

-- 5: waiting host bytes plus new ones exceed 1,024; the byte on the line is not counted
abbrev pub host_limit : ℕ
host_limit = 1024

unfoldable pub host_full : ℕ → ℕ → Bool
host_full waiting new = ltb host_limit (waiting + new)

-- 6: a byte or more, 64 runs wait, and the date is later than the last run's
abbrev pub runs_limit : ℕ
runs_limit = 64

unfoldable pub runs_full : ℕ → ℕ → ℕ → ℕ → Bool
runs_full new runs last_date date = ltb 0 new && (leb runs_limit runs && ltb last_date date)

-- 7: the period is above 1,000,000
abbrev pub period_limit : ℕ
period_limit = 1000000

abbrev pub period_too_long : ℕ → Bool
period_too_long period = ltb period_limit period

-- 8: the lent buffer is below 1,152 bytes
abbrev pub buffer_too_short : ℕ → Bool
buffer_too_short room = ltb room sent_limit

-- the first test that passes refuses
unfoldable pub refuse_if : Bool → Refusal → Option Refusal → Option Refusal
refuse_if true r rest = some r
refuse_if false r rest = rest

-- 2 and 3 come first in every dated call
unfoldable pub refuse_date : ℕ → Control → Option Refusal → Option Refusal
refuse_date now c rest = refuse_if (past_end now) DatePastEnd (refuse_if (went_back c.last now) DateWentBack rest)
