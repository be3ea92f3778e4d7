-- A row: bytes written to FIFO at one date. It is the writes made one by one, up to the first that is refused. Assumes nothing.
use Rattle.std.specs.Prelude.{ℕ, suc, Bool, ◌&&◌, eqb, length, take, get_or, Ok, Err}
use Rattle.std.proofs.Math.Option.{Option, none, some}
use mathlib.Core.List.{List, [], ◌∷◌, map, flat_map}
use Rattle.model.specs.Numbers.{choose}
use Rattle.model.specs.State.{Uart}
use Rattle.model.specs.Events.{total}
use Rattle.model.specs.Replies.{number, notice_numbers, report, write_number}
use Rattle.model.specs.Tests.{refuse_date}
use Rattle.model.specs.Calls.{Outcome, unless, outcome, send}
use Rattle.model.specs.declared.Refusal.{Refusal}
use Rattle.model.specs.declared.Report.{Report}
use Rattle.model.specs.declared.Unsupported.{Unsupported}
use Rattle.model.specs.Names.{Write, Row}

-- a longer row is cut
abbrev pub row_limit : ℕ
row_limit = 1152

-- ---- notices as counts

pub record Count : Type 0 where
  pub what : Unsupported
  pub times : ℕ

abbrev pub same_notice : Unsupported → Unsupported → Bool
same_notice m n = eqb (notice_numbers m).0 (notice_numbers n).0 && eqb (notice_numbers m).1 (notice_numbers n).1

-- one more: with those like it, or as the last of the different ones
unfoldable pub counted : Unsupported → List Count → List Count
counted n [] = record { what = n; times = 1 } ∷ []
counted n (c ∷ cs) = choose (same_notice n c.what) (record { what = c.what; times = suc c.times } ∷ cs) (c ∷ counted n cs)

-- one for each different notice, in the order in which they first come
unfoldable pub counted_all : List Count → List Unsupported → List Count
counted_all cs [] = cs
counted_all cs (n ∷ ns) = counted_all (counted n cs) ns

-- the notices of a report
abbrev pub notes_of : Report → List Unsupported
notes_of r = take r.noted (map (λ n. n.what) r.notices)

-- how often the n-th of them came; a row has at most two, a clock's and UartOverflow
unfoldable pub times_of : ℕ → List Count → ℕ
times_of n cs = get_or (map (λ c. c.times) cs) n 0

-- ---- the writes

unfoldable pub row_number : Row → ℕ
row_number (Ok m) = 0
row_number (Err r) = number r

module _ {H W : Type 0} where
  -- a write to FIFO, a call as every other
  abbrev pub fifo_write : ℕ → Uart H W → W → Outcome Write H W
  fifo_write now u b = outcome (some now) (send now b u) u

  -- one by one, each on the state that the one before left, up to the first that is refused
  unfoldable pub writes : ℕ → Uart H W → List W → List (Outcome Write H W)
  writes now u [] = []
  writes now u (b ∷ bs) =
      choose (eqb (write_number (fifo_write now u b).reply) 0) (fifo_write now u b ∷ writes now (fifo_write now u b).state bs) []

  unfoldable pub left_by : Uart H W → List (Outcome Write H W) → Uart H W
  left_by u [] = u
  left_by u (o ∷ os) = left_by o.state os

  -- passes and overflows added up, notices as counts; no write: nothing is changed, and nothing is settled
  unfoldable pub summed : Uart H W → List (Outcome Write H W) → Outcome Row H W
  summed u os =
      let counts : List Count = counted_all [] (flat_map (λ o. notes_of o.report) os) in
      record {
        reply = Ok (record { count = length os; first = times_of 0 counts; second = times_of 1 counts });
        report =
            report (total (λ o. o.report.passes) os) (total (λ o. o.report.overflows) os) (map (λ c. c.what) counts) (left_by u os);
        state = left_by u os;
        events = flat_map (λ o. o.events) os;
      }

  -- 4 only where the first write gets it
  unfoldable pub first_test : ℕ → List W → Uart H W → Option Refusal
  first_test now [] u = none
  first_test now (b ∷ bs) u = (send now b u).test

  unfoldable pub row : ℕ → List W → Uart H W → Outcome Row H W
  row now bs u = unless (refuse_date now u.control (first_test now bs u)) Err (λ s. summed s (writes now s (take row_limit bs))) u
