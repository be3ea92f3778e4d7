-- A row over a core and its arrays: what the parts of `write_row` give. Assumes nothing.
use Rattle.std.specs.Prelude.{◌≡◌, Bool, true, false, ◌&&◌, not, List, ◌∷◌, ℕ, suc, ◌+◌, ◌-◌, ◌*◌, ◌<◌, ◌≤◌, min, ltb, length, drop, take}
use Rattle.std.specs.Prelude.{Ok}
use Rattle.std.specs.Prelude.{get_or, replicate}
use Rattle.model.specs.Numbers.{choose, due_by}
use Rattle.model.specs.State
use Rattle.model.specs.Timing.{unmodelled_source}
use Rattle.model.specs.Line.{fifo_bytes}
use Rattle.model.specs.Settle.{settling_date}
use Rattle.model.specs.Arm.{last_gone}
use Rattle.model.specs.Tests.{date_end, transmit_full, period_limit}
use Rattle.model.specs.Limits.{Within}
use Rattle.model.specs.Row.{times_of, writes, summed, row_limit}
use Rattle.model.specs.Calls.{Outcome}
use Rattle.theorems.specs.Rows.Still.{Still}
use Rattle.model.specs.Names.{Row}
use Rattle.model.specs.declared.Source.{Source}
use Rattle.queue.specs.Cursors.{slot_of}
use Rattle.queue.specs.Laws.{elems-length}
use Rattle.device.specs.Holds.{Arrays, flight_of, abs, Shape, Valid}
use Rattle.device.specs.declared.Core.{Core}
use Rattle.calls.specs.Answers.{answer_core}
use Rattle.calls.specs.Queues.{flying_in}
use Rattle.access.specs.Row.{counts_of, Wrote, row_notices}
use Rattle.access.specs.declared.row.RowSoFar.{RowSoFar}
use Rattle.calls.specs.declared.answers.CallCore.{CallCore}

-- how many have left
pub left : (c : Core) (a : Arrays) → length (abs c a).tx ≡ c.tx.count
left c a = elems-length (slot_of a.tx 0) 1152 c.tx

-- ---- numbers and marks

-- whether the last byte in flight is due
abbrev pub due_of : ℕ → Core → List ℕ → List ℕ → Bool
due_of cycle c dates bytes = due_by (settling_date cycle c.control) (last_gone (flight_of dates bytes c.flight))

unfoldable pub goes_on : Bool → Bool → Bool → Bool → Bool
goes_on dropped due more full = not dropped && (due && (more && not full))

-- sums that can take one write more
pub record SumsLow (r : RowSoFar) (n : ℕ) : Type 0 where
  pub more : r.made < n
  pub limit : n ≤ row_limit
  pub passes : r.passes ≤ 2052 * r.made
  pub overflows : r.overflows ≤ 2052 * r.made
  pub dropped : r.dropped ≤ r.made

abbrev pub one_more : RowSoFar → Core → ℕ → ℕ → Bool → Bool → ℕ → RowSoFar
one_more r c passes overflows dropped due n = record {
  core = c;
  made = r.made + 1;
  passes = r.passes + passes;
  overflows = r.overflows + overflows;
  dropped = choose dropped (r.dropped + 1) r.dropped;
  goes_on = goes_on dropped due (ltb (r.made + 1) n) (transmit_full c.tx.count c.flight.count);
}

abbrev pub none_yet : Core → ℕ → RowSoFar
none_yet c n = record { core = c; made = 0; passes = 0; overflows = 0; dropped = 0; goes_on = ltb 0 n }

-- ---- the writes that settle

-- full, from the numbers of the queues
abbrev pub full_of : Core → Bool
full_of c = transmit_full c.tx.count c.flight.count

-- what the first write asks: the tests have passed, and the row is cut
pub record Begins (cycle : ℕ) (c : Core) (a : Arrays) (bytes : List ℕ) (n : ℕ) : Type 0 where
  pub ok : Valid c a
  pub early : cycle < date_end
  pub in_order : c.control.last ≤ cycle
  pub given : n ≤ length bytes
  pub limit : n ≤ row_limit
  pub room : 1 ≤ n → full_of c ≡ false

-- the writes so far, and what holds of the next one: it settles, or the state is still
pub record SoFar (cycle : ℕ) (bytes : List ℕ) (n : ℕ) (u₀ : State.Uart ℕ ℕ) (r : RowSoFar) (a : Arrays) : Type 0 where
  pub ok : Valid r.core a
  pub wrote : Wrote cycle (take n bytes) u₀ (abs r.core a) r.made r.passes r.overflows r.dropped
  pub in_order : r.core.control.last ≤ cycle
  pub fits : r.made ≤ n
  pub passes : r.passes ≤ 2052 * r.made
  pub overflows : r.overflows ≤ 2052 * r.made
  pub goes : r.goes_on ≡ true → (r.dropped ≡ 0) × (r.made < n) × (full_of r.core ≡ false)
  pub rests : r.goes_on ≡ false → r.made < n → full_of r.core ≡ false → Still cycle (abs r.core a) × (1 ≤ r.core.flight.count)

abbrev pub AllSettled : ℕ → List ℕ → ℕ → State.Uart ℕ ℕ → RowSoFar → Arrays → Type 0
AllSettled cycle bytes n u₀ r a = SoFar cycle bytes n u₀ r a × (r.goes_on ≡ false)

-- ---- the writes that do not

-- the arrays of the bytes in flight, and others of the right length
abbrev pub around : List ℕ → List ℕ → Arrays
around dates flight = record {
  gone_at = dates;
  flight = flight;
  tx = replicate 1152 0;
  host = replicate 1024 0;
  run_at = replicate 64 0;
  run_len = replicate 64 0;
  rx = replicate 128 0;
}

-- what putting the bytes into the arrays asks
pub record Room (c : Core) (dates flight bytes : List ℕ) (from n : ℕ) : Type 0 where
  pub shape : Shape c (around dates flight)
  pub period : c.control.period ≤ period_limit
  pub room : c.flight.count + n ≤ 129
  pub given : from + n ≤ length bytes

-- what counting them as writes asks, whatever stands in the other arrays
pub record Before (cycle n : ℕ) (c : Core) (a : Arrays) : Type 0 where
  pub shape : Shape c a
  pub within : Within (abs c a)
  pub early : cycle < date_end
  pub still : 1 ≤ n → Still cycle (abs c a) × (1 ≤ c.flight.count)
  pub sent : c.tx.count + c.flight.count + n ≤ 1152

-- so many writes more
pub record Filled (cycle : ℕ) (bytes : List ℕ) (from n : ℕ) (c : Core) (a : Arrays) (c' : Core) (a' : Arrays) : Type 0 where
  pub shape : Shape c' a'
  pub within : Within (abs c' a')
  pub still : Still cycle (abs c a) × (1 ≤ c.flight.count) → Still cycle (abs c' a')
  pub flight : c'.flight.count ≡ c.flight.count + n
  pub tx : c'.tx.count ≡ c.tx.count
  pub wrote : (bs : List ℕ) (u₀ : State.Uart ℕ ℕ) (p o d : ℕ)
      → ((i : ℕ) → i < n → drop (from + i) bs ≡ get_or bytes (from + i) 0 ∷ drop (suc (from + i)) bs)
      → Wrote cycle bs u₀ (abs c a) from p o d → Wrote cycle bs u₀ (abs c' a') (from + n) (p + n) o d

abbrev pub FillsAny : ℕ → List ℕ → ℕ → ℕ → Core → List ℕ → List ℕ → Core → List ℕ → List ℕ → Type 0
FillsAny cycle bytes from n c dates flight c' dates' flight' =
    (a : Arrays) → a.gone_at ≡ dates → a.flight ≡ flight → Before cycle n c a → Filled cycle bytes from n c a c'
    (flying_in dates' flight' a)

-- ---- the whole row

-- how many bytes more join those in flight
abbrev pub room_of : Core → ℕ → ℕ
room_of c rest = min rest (min (129 - c.flight.count) (1152 - (c.tx.count + c.flight.count)))

-- and how many of the rest are dropped
unfoldable pub over_of : Core → ℕ → ℕ
over_of c rest = choose (ltb fifo_bytes c.flight.count) (choose (full_of c) 0 rest) 0

abbrev pub row_source : Core → Source
row_source c = unmodelled_source c.control.words.clk_conf

abbrev pub row_core : Core → RowSoFar → ℕ → ℕ → CallCore Row
row_core c r sent over =
    let made : ℕ = r.made + sent + over in
    let dropped : ℕ = r.dropped + over in
    answer_core c
    (Ok (record {
      count = made;
      first = times_of 0 (counts_of (row_source c) (made - dropped) dropped);
      second = times_of 1 (counts_of (row_source c) (made - dropped) dropped);
    }))
    (r.passes + (sent + over)) r.overflows (row_notices (row_source c) (made - dropped) dropped)

-- what is done where no test refuses the row
abbrev pub row_work : ℕ → List ℕ → State.Uart ℕ ℕ → Outcome Row ℕ ℕ
row_work cycle bytes u = summed u (writes cycle u (take row_limit bytes))

-- sums that an answer can hold
pub record Totals (r : RowSoFar) (sent over : ℕ) : Type 0 where
  pub made : r.made + sent + over ≤ row_limit
  pub dropped : r.dropped ≤ r.made
  pub passes : r.passes ≤ 2052 * r.made

-- what carrying it out asks: the tests have passed
pub record Passed (cycle : ℕ) (c : Core) (a : Arrays) (bytes : List ℕ) : Type 0 where
  pub ok : Valid c a
  pub early : cycle < date_end
  pub in_order : c.control.last ≤ cycle
  pub room : 1 ≤ length bytes → full_of c ≡ false
