-- What the tests of each call say, as the definition chains them, from the numbers that the functions take.
-- Assumes nothing.
use Rattle.std.specs.Prelude.{◌≡◌, refl, ℕ, Ok, Err}
use Rattle.std.proofs.Math.Option.{Option, none, some}
use Rattle.model.specs.Tests.{past_end, went_back, transmit_full, host_full, runs_full, period_too_long, buffer_too_short, refuse_if}
use Rattle.model.specs.declared.Refusal.{Refusal}
use Rattle.model.specs.declared.Refusal.TheVariants.{DatePastEnd, DateWentBack, TransmitFull, HostFull, RunsFull, PeriodTooLong}
use Rattle.model.specs.declared.Refusal.TheVariants.{BufferTooShort}
use Rattle.replies.specs.Names.{Verdict}
use Rattle.replies.specs.declared.refusals.Waiting.{Waiting}

-- each case of the enum as the definition's answer
unfoldable pub verdict : Verdict → Option Refusal
verdict (Ok _) = none
verdict (Err r) = some r

-- a contract that gives the verdict determines the answer
pub verdict-one : (a b : Verdict) → verdict a ≡ verdict b → a ≡ b
unfolding verdict
verdict-one (Ok _) (Ok _) e = refl
verdict-one (Ok _) (Err r) e = cc
verdict-one (Err r) (Ok _) e = cc
verdict-one (Err r) (Err s) e = cc

-- ---- the tests of each call, from the last carried-out date and the numbers that it reads; Calls.antt ties them to it

unfoldable pub dates : ℕ → ℕ → Option Refusal → Option Refusal
dates now last rest = refuse_if (past_end now) DatePastEnd (refuse_if (went_back last now) DateWentBack rest)

unfoldable pub dates_only : ℕ → ℕ → Option Refusal
dates_only now last = dates now last none

unfoldable pub sending : ℕ → ℕ → ℕ → ℕ → Option Refusal
sending now last left flying = dates now last (refuse_if (transmit_full left flying) TransmitFull none)

unfoldable pub receiving : ℕ → ℕ → Waiting → ℕ → ℕ → Option Refusal
receiving now last w new date =
    dates now last
    (refuse_if (host_full w.bytes new) HostFull (refuse_if (runs_full new w.runs w.last_date date) RunsFull none))

unfoldable pub clocking : ℕ → ℕ → ℕ → Option Refusal
clocking now last period = dates now last (refuse_if (period_too_long period) PeriodTooLong none)

unfoldable pub taking_written : ℕ → Option Refusal
taking_written room = refuse_if (buffer_too_short room) BufferTooShort none

unfoldable pub taking_tx : ℕ → ℕ → ℕ → Option Refusal
taking_tx now last room = dates now last (taking_written room)
