-- The settlings of a call, each bounded and leaving nothing due: those with which the definition carries it out. Assumes, for what is
-- due, that dates in flight never fall.
use Rattle.std.specs.Prelude.{◌≡◌, refl, ℕ, ◌+◌, ◌*◌, ◌≤◌, List, [], ◌∷◌, None}
use Rattle.std.proofs.Common.{sym, ap, ◌∙◌}
use Rattle.model.specs.Events.{passes_in}
use Rattle.model.specs.State.{Uart}
use Rattle.model.specs.Setters.{with_wake, with_powered_down_at, with_control}
use Rattle.model.specs.Settle.{Settled, pending, settling_date, settle}
use Rattle.model.specs.Arm.{called}
use Rattle.model.specs.Map.{register_of}
use Rattle.model.specs.Calls
use Rattle.model.specs.Calls.{settled_by, dated, clocked, read_placed, send, write_placed}
use Rattle.model.specs.Call.{Machine, Dated, Call, Written, Request}
use Rattle.model.specs.Run.{replying, plan_by, writing, plan}
use Rattle.model.specs.Limits.{All, nil, cons, Chain, flight_dates}
use Rattle.model.proofs.Laws.AccessCases.{write-ind}
use Rattle.model.proofs.Ends.Passes.{apart}
use Rattle.model.proofs.Ends.NothingDue.{NothingLeft, settle-passes, settle-order, settle-nothing-left}

-- a settling: its cycle, and the state that it begins with
pub record Settling : Type 0 where
  pub now : ℕ
  pub begins : Uart ℕ ℕ

abbrev pub settles : Settling → Settled ℕ ℕ
settles s = settle s.now s.begins

abbrev pub settlings_by : ℕ → List (Uart ℕ ℕ → Uart ℕ ℕ) → Uart ℕ ℕ → List Settling
settlings_by now [] u = []
settlings_by now (f ∷ fs) u = record { now = now; begins = f u } ∷ settlings_by now fs (settle now (f u)).state

-- the settlings of a call that is carried out, in order; an undated one has none
abbrev pub settlings : Request → Uart ℕ ℕ → List Settling
settlings (Call.at now c) u = settlings_by now (plan (Call.at now c) u).changes (dated now u)
settlings (Call.undated c) u = []

-- ---- what is changed before them

abbrev pub Change : Type 0
Change = Uart ℕ ℕ → Uart ℕ ℕ

-- nothing; the Deadline is called; a power-down ends; or the period is set, by a clock change
module _ (Q : Change → Type 0) (now : ℕ) (nothing : Q (λ s. s))
    (wake : Q (λ s. with_control (with_wake (called now s.control.wake) s.control) s))
    (reset : Q (λ s. with_control (with_powered_down_at None s.control) s)) where
  machine-changes : (m : Machine) (u : Uart ℕ ℕ) → ((period : ℕ) → m ≡ Machine.clock_change period → Q (clocked period))
      → All Q (Calls.machine now m u).changes
  unfolding Calls.machine
  machine-changes Machine.wake u clock = cons wake nil
  machine-changes Machine.reset u clock = cons reset nil
  machine-changes Machine.power_down u clock = nil
  machine-changes (Machine.watch b) u clock = nil
  machine-changes (Machine.clock_change period) u clock = cons nothing (cons (clock period refl) nil)

  pub call-changes : (c : Dated ℕ Written ℕ ℕ) (u : Uart ℕ ℕ)
      → ((period : ℕ) → c ≡ Dated.machine (Machine.clock_change period) → Q (clocked period)) → All Q (plan (Call.at now c) u).changes
  unfolding plan plan_by replying writing Calls.read read_placed Calls.write send write_placed Calls.receive Calls.take_tx
  call-changes (Dated.read offset) u clock = cons nothing nil
  call-changes (Dated.write x) u clock =
      write-ind (λ p. All Q p.changes) now (register_of u.map.offsets x.offset) x.value u (λ _. cons nothing nil)
      (λ _. cons nothing nil)
  call-changes (Dated.receive date bs) u clock = cons nothing nil
  call-changes (Dated.take_tx lent) u clock = cons nothing nil
  call-changes (Dated.machine m) u clock = machine-changes m u (λ period e. clock period (ap Dated.machine e))

-- what these changes and a settling keep holds as each settling begins, and when they are over
module _ (P : Uart ℕ ℕ → Type 0) (now : ℕ) (settled : (v : Uart ℕ ℕ) → P v → P (settle now v).state) where
  pub begins-all : (fs : List Change) (u : Uart ℕ ℕ) → P u → All (λ f. (v : Uart ℕ ℕ) → P v → P (f v)) fs
      → All (λ s. P s.begins) (settlings_by now fs u)
  begins-all [] u p nil = nil
  begins-all (f ∷ fs) u p (cons k ks) = cons (k u p) (begins-all fs _ (settled (f u) (k u p)) ks)

  pub settled-all : (fs : List Change) (t : Settled ℕ ℕ) → P t.state → All (λ f. (v : Uart ℕ ℕ) → P v → P (f v)) fs
      → P (settled_by now fs t).state
  settled-all [] t p nil = p
  settled-all (f ∷ fs) t p (cons k ks) = settled-all fs _ (settled (f t.state) (k t.state p)) ks

pub all_map : {P Q : Settling → Type 0} (ss : List Settling) → ((s : Settling) → P s → Q s) → All P ss → All Q ss
all_map [] f nil = nil
all_map (s ∷ ss) f (cons p a) = cons (f s p) (all_map ss f a)

-- ---- demand 1

-- two passes for each byte pending as the settling begins and two more, and nothing due is left
pub record Settles (s : Settling) : Type 0 where
  pub passes : passes_in (settles s).events ≤ 2 * pending s.begins + 2
  pub quiet : NothingLeft (settling_date s.now s.begins.control) (settles s).state

abbrev InOrder : Uart ℕ ℕ → Type 0
InOrder u = Chain ◌≤◌ (flight_dates u.in_flight)

begins-in-order : (c : Request) (u : Uart ℕ ℕ) → InOrder u → All (λ s. InOrder s.begins) (settlings c u)
unfolding dated clocked
begins-in-order (Call.at now c) u o =
    begins-all InOrder now (λ v. settle-order now v) _ _ o
    (call-changes (λ f. (v : Uart ℕ ℕ) → InOrder v → InOrder (f v)) now (λ v k. k) (λ v k. k) (λ v k. k) c u (λ period e v k. k))
begins-in-order (Call.undated c) u o = nil

-- of every settling of every call, both of a clock change
pub call-settles : (c : Request) (u : Uart ℕ ℕ) → Chain ◌≤◌ (flight_dates u.in_flight) → All Settles (settlings c u)
call-settles c u o =
    all_map (settlings c u)
    (λ s k. record { passes = settle-passes s.now s.begins; quiet = settle-nothing-left s.now s.begins k })
    (begins-in-order c u o)

heads : {x y : Settling} {xs ys : List Settling} → x ∷ xs ≡ y ∷ ys → x ≡ y
heads e = cc

-- the first settling begins with what is pending as the call comes
pub call-pending : (c : Request) (u : Uart ℕ ℕ) (s : Settling) (ss : List Settling) → settlings c u ≡ s ∷ ss
    → pending s.begins ≡ pending u
unfolding dated clocked pending
call-pending (Call.at now c) u s ss e =
    first _ e (call-changes (λ f. (v : Uart ℕ ℕ) → pending (f v) ≡ pending v) now (λ v. refl) (λ v. refl) (λ v. refl) c u
    (λ period _ v. refl))
  where
    first : (fs : List Change) → settlings_by now fs (dated now u) ≡ s ∷ ss → All (λ f. (v : Uart ℕ ℕ) → pending (f v) ≡ pending v) fs
        → pending s.begins ≡ pending u
    first [] e nil = apart (cc)
    first (f ∷ fs) e (cons k ks) = ap (λ x. pending x.begins) (sym (heads e)) ∙ k (dated now u)
call-pending (Call.undated c) u s ss e = apart (cc)
