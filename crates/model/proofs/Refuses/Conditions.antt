-- Document 01's table of numbers, as propositions on numbers, and the order of its tests. No test of the definition stands
-- here. Assumes nothing.
use Rattle.std.specs.Prelude.{◌≡◌, ℕ, ◌+◌, ◌-◌, ◌*◌, ◌^◌, ◌≤◌, ◌<◌, min, max, List, [], ◌∷◌, ◌++◌, length, take, Err}
use Rattle.std.proofs.Math.Option.{some}
use Rattle.model.specs.State.{Run, Uart}
use Rattle.model.specs.Replies.{no_report}
use Rattle.model.specs.Calls.{carried}
use Rattle.model.specs.Row.{row_limit, writes, summed}
use Rattle.model.specs.Call.{Machine, Dated, Undated, Call, date_of, Written, Asked, Ask, asked_date, Reply, rows}
use Rattle.model.specs.Run.{Step, stepped, answering, plan}
use Rattle.model.specs.Limits.{All}
use Rattle.model.specs.declared.Refusal.{Refusal}
use Rattle.model.specs.declared.Refusal.TheVariants.{DatePastEnd, DateWentBack, TransmitFull, HostFull, RunsFull, PeriodTooLong}
use Rattle.model.specs.declared.Refusal.TheVariants.{BufferTooShort}

-- the table: when a call or a row meets the condition of a number, in the state before settling
pub data Condition (u : Uart ℕ ℕ) : Refusal → Ask → Type 0 where
  -- 2: now is 2^59 or more
  number2 : {c : Ask} {now : ℕ} → asked_date c ≡ some now → 2 ^ 59 ≤ now → Condition u DatePastEnd c
  -- 3: now is below the last carried-out date
  number3 : {c : Ask} {now : ℕ} → asked_date c ≡ some now → now < u.control.last → Condition u DateWentBack c
  -- 4: FIFO write: bytes left and in flight total 1,152. FIFO's offset is the first of the map
  number4 : {now : ℕ} {x : Written} {others : List ℕ} → u.map.offsets ≡ x.offset ∷ others → 1152 ≤ length u.tx + length u.in_flight
      → Condition u TransmitFull (Asked.call (Call.at now (Dated.write x)))
  -- and of a row, where its first write would get it
  number4' : {now : ℕ} {bs : List ℕ} → 1 ≤ length bs → 1152 ≤ length u.tx + length u.in_flight
      → Condition u TransmitFull (Asked.row now bs)
  -- 5: receive: waiting host bytes plus new ones exceed 1,024
  number5 : {now at : ℕ} {bs : List ℕ} → 1024 < length u.host + length bs
      → Condition u HostFull (Asked.call (Call.at now (Dated.receive at bs)))
  -- 6: receive of a byte or more: 64 runs wait and the date, max(its cycle, now) × 32 held at 2^64 - 1, is later than the last run's
  number6 : {now at : ℕ} {bs : List ℕ} (runs : List Run) (r : Run) → 1 ≤ length bs → 64 ≤ length u.host_runs
      → u.host_runs ≡ runs ++ (r ∷ [])
      → r.date < min (max at now * 32) (2 ^ 64 - 1) → Condition u RunsFull (Asked.call (Call.at now (Dated.receive at bs)))
  -- 7: clock change: period above 1,000,000
  number7 : {now period : ℕ} → 1000000 < period
      → Condition u PeriodTooLong (Asked.call (Call.at now (Dated.machine (Machine.clock_change period))))
  -- 8: take_tx, take_written: lent buffer below 1,152 bytes
  number8 : {now : ℕ} {lent : List ℕ} → length lent < 1152 → Condition u BufferTooShort (Asked.call (Call.at now (Dated.take_tx lent)))
  number8' : {lent : List ℕ} → length lent < 1152 → Condition u BufferTooShort (Asked.call (Call.undated (Undated.take_written lent)))

-- the tests run in the order 2, 3, 7, 8, 4, 5, 6
abbrev pub order : List Refusal
order = DatePastEnd ∷ DateWentBack ∷ PeriodTooLong ∷ BufferTooShort ∷ TransmitFull ∷ HostFull ∷ RunsFull ∷ []

-- `r` is the first in the order for which P holds
pub data First (P : Refusal → Type 0) : List Refusal → Refusal → Type 0 where
  here : {r : Refusal} {rs : List Refusal} → P r → First P (r ∷ rs) r
  next : {q r : Refusal} {rs : List Refusal} → ¬ P q → First P rs r → First P (q ∷ rs) r

-- ---- the two ends of a call, and of a row

-- what it answers where it is refused
unfoldable pub refused_with : Ask → Uart ℕ ℕ → Refusal → Reply ℕ ℕ ℕ
refused_with (Asked.call c) u r = (plan c u).refuses r
refused_with (Asked.row now bs) u r = rows (Err r)

-- what it does where it is carried out
unfoldable pub carried_out : Ask → Uart ℕ ℕ → Step ℕ ℕ ℕ
carried_out (Asked.call c) u = stepped (carried (date_of c) (plan c u) u)
carried_out (Asked.row now bs) u = answering rows (summed u (writes now u (take row_limit bs)))

-- refused with the first number whose condition holds, everything else kept; or carried out, where none holds
pub data Result (c : Ask) (u : Uart ℕ ℕ) : Step ℕ ℕ ℕ → Type 0 where
  refusal : {r : Refusal} → First (λ q. Condition u q c) order r
      → Result c u (record { answer = record { reply = refused_with c u r; report = no_report }; state = u; events = [] })
  done : All (λ q. ¬ Condition u q c) order → Result c u (carried_out c u)
