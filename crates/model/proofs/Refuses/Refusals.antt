-- Every call and every row ends in one of two ways: refused with the first number whose condition holds, or carried out. Assumes nothing.
use Rattle.std.specs.Prelude.{◌≡◌, ℕ, ◌+◌, ◌^◌, ◌≤◌, ◌<◌, Bool, ◌&&◌, List, [], ◌∷◌, ◌++◌, leb, ltb, take, Err}
use Rattle.std.proofs.Math.Path.{refl, ap}
use Rattle.std.proofs.Common.{sym, ◌∙◌, ltb-true, ltb-false, leb-true, leb-false, lt-ltb, le-leb}
use native.Mathlib.Omega.{arith}
use Rattle.std.proofs.Math.Bool.{true, false, decide}
use Rattle.std.proofs.Math.Option.{Option, none, some}
use Rattle.std.proofs.Math.ListN.{length}
use Rattle.model.specs.State.{Run, Uart}
use Rattle.model.specs.Replies.{number, read_number, write_number, done_number, taken_number}
use Rattle.model.specs.Map.{Register, is_fifo, register_of}
use Rattle.model.specs.Tests.{transmit_full, host_full, runs_full, refuse_if}
use Rattle.model.specs.Tests.{refuse_date}
use Rattle.model.specs.Calls
use Rattle.model.specs.Calls.{refusal_by, refusing, unless, carried, outcome, last_date, host_date, not_taken, read_placed, write_placed}
use Rattle.model.specs.Calls.{send, write_at}
use Rattle.model.specs.Call.{Machine, Dated, Undated, Call, date_of, Written, Request, Asked, Ask, asked_date, rows}
use Rattle.model.specs.Row.{row_number, writes, summed, first_test, row, row_limit}
use Rattle.model.specs.Run.{number_of, stepped, answering, replying, plan_by, writing, plan, step, asked_by, asked}
use Rattle.model.specs.Limits.{All, nil, cons}
use Rattle.model.proofs.Ends.Passes.{apart}
use Rattle.model.proofs.Laws.AccessCases.{write-ind}
use Rattle.model.proofs.Refuses.Conditions.{Condition, number2, number3, number4, number4', number5, number6, number7, number8}
use Rattle.model.proofs.Refuses.Conditions.{number8'}
use Rattle.model.proofs.Refuses.Conditions.{order, First, here, next, refused_with, carried_out, Result, refusal, done}
use Rattle.model.proofs.Refuses.FifoPlace.{first-is-fifo, fifo-is-first}
use Rattle.model.specs.declared.Refusal.{Refusal}
use Rattle.model.specs.declared.Refusal.TheVariants.{DatePastEnd, DateWentBack, TransmitFull, HostFull, RunsFull, PeriodTooLong}
use Rattle.model.specs.declared.Refusal.TheVariants.{RepeatedOffset, BufferTooShort}

-- ---- tests one after another

-- what a row of tests gave: none holds, or one is the first that does
data Verdict (P : Refusal → Type 0) (rs : List Refusal) : Option Refusal → Type 0 where
  clear : All (λ r. ¬ P r) rs → Verdict P rs none
  stopped : {r : Refusal} → First P rs r → Verdict P rs (some r)

module _ {P : Refusal → Type 0} {rs : List Refusal} where
  skip : {r : Refusal} {o : Option Refusal} → ¬ P r → Verdict P rs o → Verdict P (r ∷ rs) o
  skip n (clear v) = clear (cons n v)
  skip n (stopped v) = stopped (next n v)

  tested : (b : Bool) (r : Refusal) {o : Option Refusal} → (b ≡ true → P r) → (b ≡ false → ¬ P r) → Verdict P rs o
      → Verdict P (r ∷ rs) (refuse_if b r o)
  unfolding refuse_if
  tested true r y n v = stopped (here (y refl))
  tested false r y n v = skip (n refl) v

  -- a test of two numbers, and the order of them that a condition states
  tested-lt : (a b : ℕ) (r : Refusal) {o : Option Refusal} → (a < b → P r) → (P r → a < b) → Verdict P rs o
      → Verdict P (r ∷ rs) (refuse_if (ltb a b) r o)
  tested-lt a b r to from v =
      tested (ltb a b) r (λ h. to (ltb-true a b h)) (λ h p. absurd (let lt : a < b = from p in omega (arith, ltb-false a b h))) v

  tested_le : (a b : ℕ) (r : Refusal) {o : Option Refusal} → (a ≤ b → P r) → (P r → a ≤ b) → Verdict P rs o
      → Verdict P (r ∷ rs) (refuse_if (leb a b) r o)
  tested_le a b r to from v =
      tested (leb a b) r (λ h. to (leb-true a b h)) (λ h p. absurd (let le : a ≤ b = from p in omega (arith, leb-false a b h))) v

module _ {P : Refusal → Type 0} where
  pub first_one : {rs : List Refusal} {q r : Refusal} → First P rs q → First P rs r → q ≡ r
  first_one (here p) (here p') = refl
  first_one (here p) (next n f) = absurd (n p)
  first_one (next n f) (here p) = absurd (n p)
  first_one (next n f) (next n' f') = first_one f f'

  pub first-none : {rs : List Refusal} {r : Refusal} → First P rs r → All (λ q. ¬ P q) rs → ⊥
  first-none (here p) (cons n ns) = n p
  first-none (next n f) (cons n' ns) = first-none f ns

pub same_some : {A : Type 0} {a b : A} → some a ≡ some b → a ≡ b
same_some e = cc

module _ (c : Ask) (u : Uart ℕ ℕ) where
  -- 2 and 3, first in every dated call
  dates : (now : ℕ) (o : Option Refusal) → asked_date c ≡ some now
      → Verdict (λ q. Condition u q c) (PeriodTooLong ∷ BufferTooShort ∷ TransmitFull ∷ HostFull ∷ RunsFull ∷ []) o
      → Verdict (λ q. Condition u q c) order (refuse_date now u.control o)
  unfolding refuse_date
  dates now o e v = tested_le (2 ^ 59) now DatePastEnd (number2 e) from2 (tested-lt now _ DateWentBack (number3 e) from3 v)
    where
      from2 : Condition u DatePastEnd c → 2 ^ 59 ≤ now
      from2 (number2 e' le) = let s : now ≡ _ = same_some (sym e ∙ e') in omega arith

      from3 : Condition u DateWentBack c → now < u.control.last
      from3 (number3 e' lt) = let s : now ≡ _ = same_some (sym e ∙ e') in omega arith

  undated : (o : Option Refusal) → asked_date c ≡ none
      → Verdict (λ q. Condition u q c) (PeriodTooLong ∷ BufferTooShort ∷ TransmitFull ∷ HostFull ∷ RunsFull ∷ []) o
      → Verdict (λ q. Condition u q c) order o
  undated o e v = skip not2 (skip not3 v)
    where
      not2 : ¬ Condition u DatePastEnd c
      not2 (number2 e' le) = apart (cc)

      not3 : ¬ Condition u DateWentBack c
      not3 (number3 e' lt) = apart (cc)

-- ---- the tests of one call alone, as document 01's conditions

and-true : (a b : Bool) → a && b ≡ true → (a ≡ true) × (b ≡ true)
and-true true b h = (refl, h)
and-true false b h = apart (cc)

runs-yes : (new runs last date : ℕ) → runs_full new runs last date ≡ true → (1 ≤ new) × (64 ≤ runs) × (last < date)
unfolding runs_full
runs-yes new runs last date h =
    let p : (ltb 0 new ≡ true) × (leb 64 runs && ltb last date ≡ true) = and-true _ _ h in
    let q : (leb 64 runs ≡ true) × (ltb last date ≡ true) = and-true _ _ p.1 in
    (ltb-true 0 new p.0, leb-true 64 runs q.0, ltb-true last date q.1)

runs-no : (new runs last date : ℕ) → runs_full new runs last date ≡ false → 1 ≤ new → 64 ≤ runs → last < date → ⊥
unfolding runs_full
runs-no new runs last date h some_byte full lt =
    let e : runs_full new runs last date ≡ true = rw (lt-ltb 0 new some_byte, le-leb 64 runs full, lt-ltb last date lt) in apart (cc)

-- the last of some runs, and its date
record LastRun (l : List Run) : Type 0 where
  runs : List Run
  run : Run
  is : l ≡ runs ++ (run ∷ [])

last-run : (l : List Run) → 1 ≤ length l → LastRun l
last-run [] h = absurd (omega arith)
last-run (r ∷ []) h = record { runs = []; run = r; is = refl }
last-run (r ∷ s ∷ rs) h =
    let l : LastRun (s ∷ rs) = last-run (s ∷ rs) (omega arith) in record { runs = r ∷ l.runs; run = l.run; is = ap (◌∷◌ r) l.is }

last-date : (runs : List Run) (r : Run) → last_date (runs ++ (r ∷ [])) ≡ r.date
unfolding last_date
last-date [] r = refl
last-date (s ∷ []) r = refl
last-date (s ∷ t ∷ runs) r = last-date (t ∷ runs) r

module _ (u : Uart ℕ ℕ) (now at : ℕ) (bs : List ℕ) where
  too_many : Bool
  too_many = runs_full (length bs) (length u.host_runs) (last_date u.host_runs) (host_date now at)

  number6-yes : too_many ≡ true → Condition u RunsFull (Asked.call (Call.at now (Dated.receive at bs)))
  unfolding too_many host_date
  number6-yes h =
      let t : (1 ≤ length bs) × (64 ≤ length u.host_runs) × (last_date u.host_runs < host_date now at) = runs-yes _ _ _ _ h in
      let l : LastRun u.host_runs = last-run u.host_runs (omega arith) in
      number6 {now = now} {at = at} l.runs l.run t.0 t.1 l.is
      (omega (arith, ap last_date l.is, last-date l.runs l.run))

  number6-no : too_many ≡ false → ¬ Condition u RunsFull (Asked.call (Call.at now (Dated.receive at bs)))
  unfolding too_many host_date
  number6-no h (number6 runs r some_byte full is lt) =
      runs-no _ _ _ _ h some_byte full (omega (arith, ap last_date is, last-date runs r))

  from5 : Condition u HostFull (Asked.call (Call.at now (Dated.receive at bs))) → 1024 < length u.host + length bs
  from5 (number5 lt) = lt

module _ (u : Uart ℕ ℕ) where
  from4 : {now : ℕ} {x : Written} → Condition u TransmitFull (Asked.call (Call.at now (Dated.write x)))
      → 1152 ≤ length u.tx + length u.in_flight
  from4 (number4 is le) = le

  from7 : {now period : ℕ} → Condition u PeriodTooLong (Asked.call (Call.at now (Dated.machine (Machine.clock_change period))))
      → 1000000 < period
  from7 (number7 lt) = lt

  from8 : {now : ℕ} {lent : List ℕ} → Condition u BufferTooShort (Asked.call (Call.at now (Dated.take_tx lent))) → length lent < 1152
  from8 (number8 lt) = lt

  from8' : {lent : List ℕ} → Condition u BufferTooShort (Asked.call (Call.undated (Undated.take_written lent))) → length lent < 1152
  from8' (number8' lt) = lt

-- ---- each call

-- whose tests are whose, as one table: an empty match at each call and number would say it too, at many times the cost.
-- Of four types, for the numbers 7, 8, 4, and 5 and 6, the one of a call's or a row's own test; ⊥ where it has none
abbrev own_of : Ask → Type 0 → Type 0 → Type 0 → Type 0 → Type 0
own_of (Asked.call (Call.at now (Dated.read offset))) p b t h = ⊥
own_of (Asked.call (Call.at now (Dated.write x))) p b t h = t
own_of (Asked.call (Call.at now (Dated.receive date bs))) p b t h = h
own_of (Asked.call (Call.at now (Dated.take_tx lent))) p b t h = b
own_of (Asked.call (Call.at now (Dated.machine Machine.wake))) p b t h = ⊥
own_of (Asked.call (Call.at now (Dated.machine Machine.reset))) p b t h = ⊥
own_of (Asked.call (Call.at now (Dated.machine Machine.power_down))) p b t h = ⊥
own_of (Asked.call (Call.at now (Dated.machine (Machine.watch w)))) p b t h = ⊥
own_of (Asked.call (Call.at now (Dated.machine (Machine.clock_change period)))) p b t h = p
own_of (Asked.call (Call.undated (Undated.take_written lent))) p b t h = b
own_of (Asked.call (Call.undated Undated.has_left)) p b t h = ⊥
own_of (Asked.call (Call.undated Undated.host_pending)) p b t h = ⊥
own_of (Asked.row now bs) p b t h = t

-- inhabited where a number can be got: 2 and 3 by any, as the dates are tested apart
abbrev Owns : Refusal → Ask → Type 0
Owns RepeatedOffset c = ⊥
Owns DatePastEnd c = Unit {0}
Owns DateWentBack c = Unit {0}
Owns PeriodTooLong c = own_of c (Unit {0}) ⊥ ⊥ ⊥
Owns BufferTooShort c = own_of c ⊥ (Unit {0}) ⊥ ⊥
Owns TransmitFull c = own_of c ⊥ ⊥ (Unit {0}) ⊥
Owns HostFull c = own_of c ⊥ ⊥ ⊥ (Unit {0})
Owns RunsFull c = own_of c ⊥ ⊥ ⊥ (Unit {0})

own : {u : Uart ℕ ℕ} {r : Refusal} {c : Ask} → Condition u r c → Owns r c
own (number2 e le) = tt
own (number3 e lt) = tt
own (number4 is le) = tt
own (number4' one le) = tt
own (number5 lt) = tt
own (number6 runs r one full is lt) = tt
own (number7 lt) = tt
own (number8 lt) = tt
own (number8' lt) = tt

no_other : {P : Refusal → Type 0} → ¬ P PeriodTooLong → ¬ P BufferTooShort → ¬ P TransmitFull → ¬ P HostFull → ¬ P RunsFull
    → Verdict P (PeriodTooLong ∷ BufferTooShort ∷ TransmitFull ∷ HostFull ∷ RunsFull ∷ []) none
no_other p b t h r = clear (cons p (cons b (cons t (cons h (cons r nil)))))

module _ (now : ℕ) (x : Written) (u : Uart ℕ ℕ) where
  abbrev register : Register
  register = register_of u.map.offsets x.offset

  not-fifo : is_fifo register ≡ false → ¬ Condition u TransmitFull (Asked.call (Call.at now (Dated.write x)))
  unfolding decide
  not-fifo h (number4 {others = os} is le) =
      let f : is_fifo register ≡ true = ap is_fifo (ap (λ l. register_of l x.offset) is ∙ first-is-fifo x.offset os) in apart (cc)

  write-verdict : Verdict (λ q. Condition u q (Asked.call (Call.at now (Dated.write x)))) order
      (refuse_date now u.control (write_at now register x.value u).test)
  unfolding send write_placed transmit_full date_of asked_date
  write-verdict =
      write-ind
      (λ p. Verdict (λ q. Condition u q (Asked.call (Call.at now (Dated.write x)))) order (refuse_date now u.control p.test))
      now register x.value u
      (λ e. dates _ u now _ refl (skip own (skip own
      (tested_le 1152 _ TransmitFull (number4 (fifo-is-first u.map.offsets x.offset e).1) (from4 u)
      (clear (cons own (cons own nil)))))))
      (λ e. dates _ u now none refl (no_other own own (not-fifo e) own own))

-- the tests of each call
machine-verdict : (now : ℕ) (m : Machine) (u : Uart ℕ ℕ)
    → Verdict (λ q. Condition u q (Asked.call (Call.at now (Dated.machine m)))) order
    (refuse_date now u.control (Calls.machine now m u).test)
unfolding Calls.machine date_of asked_date
machine-verdict now Machine.wake u = dates _ u now none refl (no_other own own own own own)
machine-verdict now Machine.reset u = dates _ u now none refl (no_other own own own own own)
machine-verdict now Machine.power_down u = dates _ u now none refl (no_other own own own own own)
machine-verdict now (Machine.watch b) u = dates _ u now none refl (no_other own own own own own)
machine-verdict now (Machine.clock_change period) u =
    dates _ u now _ refl (tested-lt 1000000 period PeriodTooLong number7 (from7 u)
    (skip own (skip own (skip own (skip own (clear nil))))))

verdict : (c : Request) (u : Uart ℕ ℕ)
    → Verdict (λ q. Condition u q (Asked.call c)) order (refusal_by (date_of c) (plan c u).test u.control)
unfolding plan plan_by replying writing date_of asked_date host_full too_many
    Calls.read read_placed Calls.write Calls.receive Calls.take_tx Calls.take_written Calls.has_left Calls.host_pending
verdict (Call.at now (Dated.read offset)) u = dates _ u now none refl (no_other own own own own own)
verdict (Call.at now (Dated.write x)) u = write-verdict now x u
verdict (Call.at now (Dated.receive date bs)) u =
    dates _ u now _ refl (skip own (skip own (skip own
    (tested-lt 1024 _ HostFull number5 (from5 u now date bs)
    (tested _ RunsFull (number6-yes u now date bs) (number6-no u now date bs) (clear nil))))))
verdict (Call.at now (Dated.take_tx lent)) u =
    dates _ u now _ refl (skip own (tested-lt (length lent) 1152 BufferTooShort number8 (from8 u)
    (skip own (skip own (skip own (clear nil))))))
verdict (Call.at now (Dated.machine m)) u = machine-verdict now m u
verdict (Call.undated (Undated.take_written lent)) u =
    undated _ u _ refl (skip own (tested-lt (length lent) 1152 BufferTooShort number8' (from8' u)
    (skip own (skip own (skip own (clear nil))))))
verdict (Call.undated Undated.has_left) u = undated _ u none refl (no_other own own own own own)
verdict (Call.undated Undated.host_pending) u = undated _ u none refl (no_other own own own own own)

row-verdict : (now : ℕ) (bs : List ℕ) (u : Uart ℕ ℕ)
    → Verdict (λ q. Condition u q (Asked.row now bs)) order (refuse_date now u.control (first_test now bs u))
unfolding first_test send transmit_full asked_date
row-verdict now [] u = dates _ u now none refl (no_other own own empty own own)
  where
    empty : ¬ Condition u TransmitFull (Asked.row now [])
    empty (number4' one le) = omega arith
row-verdict now (b ∷ bs) u =
    dates _ u now _ refl (skip own (skip own
    (tested_le 1152 _ TransmitFull (number4' (omega arith)) full (clear (cons own (cons own nil))))))
  where
    full : Condition u TransmitFull (Asked.row now (b ∷ bs)) → 1152 ≤ length u.tx + length u.in_flight
    full (number4' one le) = le

-- every call and every row is refused or carried out, as document 01's table and order say
pub asked-result : (c : Ask) (u : Uart ℕ ℕ) → Result c u (asked c u)
unfolding asked_by step outcome row unless refusing stepped answering refused_with carried_out
asked-result (Asked.call c) u = ends _ (verdict c u)
  where
    ends : (o : Option Refusal) → Verdict (λ q. Condition u q (Asked.call c)) order o
        → Result (Asked.call c) u (stepped (unless o (plan c u).refuses (carried (date_of c) (plan c u)) u))
    ends none (clear v) = done v
    ends (some r) (stopped v) = refusal v
asked-result (Asked.row now bs) u = ends _ (row-verdict now bs u)
  where
    ends : (o : Option Refusal) → Verdict (λ q. Condition u q (Asked.row now bs)) order o
        → Result (Asked.row now bs) u (answering rows (unless o Err (λ s. summed s (writes now s (take row_limit bs))) u))
    ends none (clear v) = done v
    ends (some r) (stopped v) = refusal v

-- has_left and host_pending are never refused
never : {P : Refusal → Type 0} {rs : List Refusal} {r : Refusal} → Verdict P rs none → First P rs r → ⊥
never (clear n) f = first-none f n

machine-refuses : (now : ℕ) (m : Machine) (u : Uart ℕ ℕ) (r : Refusal) → done_number ((Calls.machine now m u).refuses r) ≡ number r
unfolding Calls.machine done_number
machine-refuses now Machine.wake u r = refl
machine-refuses now Machine.reset u r = refl
machine-refuses now Machine.power_down u r = refl
machine-refuses now (Machine.watch b) u r = refl
machine-refuses now (Machine.clock_change period) u r = refl

-- the reply of a refused call has its number
call-number : (c : Request) (u : Uart ℕ ℕ) (r : Refusal) → First (λ q. Condition u q (Asked.call c)) order r
    → number_of ((plan c u).refuses r) ≡ number r
unfolding plan plan_by replying writing number_of read_number write_number done_number taken_number not_taken date_of
    Calls.read read_placed Calls.write send write_placed Calls.receive Calls.take_tx Calls.take_written Calls.has_left Calls.host_pending
call-number (Call.at now (Dated.read offset)) u r f = refl
call-number (Call.at now (Dated.write x)) u r f =
    write-ind (λ p. write_number (p.refuses r) ≡ number r) now _ x.value u (λ _. refl) (λ _. refl)
call-number (Call.at now (Dated.receive date bs)) u r f = refl
call-number (Call.at now (Dated.take_tx lent)) u r f = refl
call-number (Call.at now (Dated.machine m)) u r f = machine-refuses now m u r
call-number (Call.undated (Undated.take_written lent)) u r f = refl
call-number (Call.undated Undated.has_left) u r f = absurd (never (verdict (Call.undated Undated.has_left) u) f)
call-number (Call.undated Undated.host_pending) u r f = absurd (never (verdict (Call.undated Undated.host_pending) u) f)

pub refuses-number : (c : Ask) (u : Uart ℕ ℕ) (r : Refusal) → First (λ q. Condition u q c) order r
    → number_of (refused_with c u r) ≡ number r
unfolding refused_with number_of row_number
refuses-number (Asked.call c) u r f = call-number c u r f
refuses-number (Asked.row now bs) u r f = refl
