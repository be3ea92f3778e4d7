-- The contract of a call over parts: complete reply, report and next state are the definition's, within the limits again; and on
-- a refusal the core and its slots are those that came in. Assumes nothing.
use Rattle.std.specs.Prelude.{◌≡◌, refl, Result, Ok, Err}
use Rattle.std.proofs.Math.Path.{sym, ap, ap₂, subst}
use Rattle.std.proofs.Common.{◌∙◌, arith, leb-false}
use Rattle.std.proofs.Math.Option.{Option, none, some}
use mathlib.Core.List.{[]}
use Prim.Native.Nat.{ℕ, ◌≤◌, ◌<◌}
use Rattle.model.specs.State
use Rattle.model.specs.Settle
use Rattle.model.specs.Events.{total, passes_in, overflows_in}
use Rattle.model.specs.Registers.{Access}
use Rattle.model.specs.Replies
use Rattle.model.specs.Replies.{no_report, done_number}
use Rattle.model.specs.Arm.{arm}
use Rattle.model.specs.Tests.{date_end, past_end, went_back}
use Rattle.model.specs.Limits.{Within}
use Rattle.model.proofs.Keeps.Dated.{not-refused}
use Rattle.model.specs.Calls
use Rattle.model.specs.Calls.{Outcome, Plan, refusing, unless, after_settling, outcome, quiet}
use Rattle.model.specs.declared.Refusal.{Refusal}
use Rattle.model.specs.declared.Report.{Report}
use Rattle.model.specs.Names.{Done}
use Rattle.replies.specs.Refusals.{verdict, dates}
use Rattle.replies.specs.Names.{Verdict}
use Rattle.replies.specs.Notices.{noted}
use Rattle.replies.specs.Reports.{reported, report-of}
use Rattle.replies.specs.declared.notices.Notices.{Notices}
use Rattle.device.specs.Holds.{Arrays, abs, Shape, Valid}
use Rattle.device.specs.Settles.{Settles}
use Rattle.device.specs.Arms.{Arms}
use Rattle.device.specs.declared.Core.{Core}
use Rattle.calls.specs.declared.answers.CallCore.{CallCore}

-- `view` gives the reply of the function from the definition's, and `number` document 01's number of it
module _ {X R : Type 0} (view : X → R) (number : X → ℕ) (o : Outcome X ℕ ℕ) (c : Core) (a : Arrays) (c' : Core) (a' : Arrays) where
  pub record Answers (reply : R) (report : Report) : Type 0 where
    pub ok : Valid c' a'
    pub replies : reply ≡ view o.reply
    pub reports : report ≡ o.report
    pub state : abs c' a' ≡ o.state
    pub kept : 1 ≤ number o.reply → (c' ≡ c) × (a' ≡ a)

-- a dated call and an undated one, and what a dated call does where no test refuses it
abbrev pub dated_call : {X : Type 0} → ℕ → (State.Uart ℕ ℕ → Plan X ℕ ℕ) → State.Uart ℕ ℕ → Outcome X ℕ ℕ
dated_call now plan u = outcome (some now) (plan u) u

abbrev pub undated_call : {X : Type 0} → (State.Uart ℕ ℕ → Plan X ℕ ℕ) → State.Uart ℕ ℕ → Outcome X ℕ ℕ
undated_call plan u = outcome none (plan u) u

abbrev pub dated_work : {X : Type 0} → ℕ → (State.Uart ℕ ℕ → Plan X ℕ ℕ) → State.Uart ℕ ℕ → Outcome X ℕ ℕ
dated_work now plan u = Calls.carried (some now) (plan u) u

-- a call that answers done or a refusal
abbrev pub DoneWith : (State.Uart ℕ ℕ → Outcome Done ℕ ℕ) → Core → Arrays → Core → Arrays → Done → Report → Type 0
DoneWith call c a c' a' = Answers (λ r. r) done_number (call (abs c a)) c a c' a'

-- ---- the work of a call that is carried out

-- the queues stand in their slots, and reply, report and state are the definition's
pub record Works {X R : Type 0} (view : X → R) (o : Outcome X ℕ ℕ) (c' : Core) (a' : Arrays) (reply : R) (report : Report) : Type 0 where
  pub shape : Shape c' a'
  pub replies : reply ≡ view o.reply
  pub reports : report ≡ o.report
  pub state : abs c' a' ≡ o.state

-- the same of what is done between settling and report
pub record Accesses {X R : Type 0} (view : X → R) (x : Access X ℕ ℕ) (c' : Core) (a' : Arrays) (reply : R)
    (notices : Notices) : Type 0 where
  pub shape : Shape c' a'
  pub replies : reply ≡ view x.reply
  pub notes : notices ≡ noted x.notes
  pub state : abs c' a' ≡ x.state

-- level and wake of a report are the core's
abbrev pub report_of : Core → ℕ → ℕ → Notices → Report
report_of c passes overflows m = reported c.control.level c.control.wake overflows passes m

module _ {X R : Type 0} (view : X → R) where
  -- settled, and then the work
  pub after : {t : Settle.Settled ℕ ℕ} {c₁ : Core} {a₁ : Arrays} {n o : ℕ} → Settles t c₁ a₁ n o → (work : State.Uart ℕ ℕ → Access X ℕ ℕ)
      → {c' : Core} {a' : Arrays} {reply : R} {m : Notices} → Accesses view (work (abs c₁ a₁)) c' a' reply m
      → Works view (after_settling t work) c' a' reply (report_of c' n o m)
  unfolding after_settling
  after {t} {c₁} {a₁} {n} {o} s work {c'} {a'} {reply} {m} x =
      let same : abs c₁ a₁ ≡ t.state = s.gives.state in
      record {
        shape = x.shape;
        replies = x.replies ∙ ap (λ (u : State.Uart ℕ ℕ). view (work u).reply) same;
        reports =
            ap (λ (k : Notices). report_of c' n o k) x.notes ∙ report-of n o _ (abs c' a')
            ∙ ap (λ (u : State.Uart ℕ ℕ). Replies.report n o (work (abs c₁ a₁)).notes u) x.state
            ∙ ap (λ (u : State.Uart ℕ ℕ). Replies.report n o (work u).notes (work u).state) same
            ∙ ap₂ (λ (p q : ℕ). Replies.report p q (work t.state).notes (work t.state).state) s.gives.passes
            s.gives.overflows;
        state = x.state ∙ ap (λ (u : State.Uart ℕ ℕ). (work u).state) same;
      }

  -- without settling
  pub unsettled-works : {r : X} {u : State.Uart ℕ ℕ} (change : State.Uart ℕ ℕ → State.Uart ℕ ℕ) {c' : Core} {a' : Arrays} → Shape c' a'
      → abs c' a' ≡ change u
      → Works view (after_settling (Settle.ended u) (λ s. quiet r (change s))) c' a' (view r) (report_of c' 0 0 (noted []))
  unfolding after_settling quiet passes_in overflows_in total
  unsettled-works change {c'} {a'} k e = record {
    shape = k;
    replies = refl;
    reports = report-of 0 0 [] (abs c' a') ∙ ap (Replies.report 0 0 []) e;
    state = e;
  }

module _ {X R : Type 0} (view : X → R) (number : X → ℕ) {o : Outcome X ℕ ℕ} {tests : Option Refusal} (refuse : Refusal → X)
    (work : State.Uart ℕ ℕ → Outcome X ℕ ℕ) (c : Core) (a : Arrays) (e : o ≡ unless tests refuse work (abs c a)) where
  -- no test refuses
  pub carried : {c' : Core} {a' : Arrays} {reply : R} {report : Report} → tests ≡ none → Within o.state
      → number (work (abs c a)).reply ≡ 0
      → Works view (work (abs c a)) c' a' reply report → Answers view number o c a c' a' reply report
  unfolding unless
  carried {c'} {a'} {reply} {report} t w z k =
      let done : o ≡ work (abs c a) = e ∙ ap (λ (x : Option Refusal). unless x refuse work (abs c a)) t in
      let state : abs c' a' ≡ o.state = k.state ∙ sym (ap (λ (x : Outcome X ℕ ℕ). x.state) done) in
      record {
        ok = record { shape = k.shape; within = subst Within (sym state) w };
        replies = k.replies ∙ sym (ap (λ (x : Outcome X ℕ ℕ). view x.reply) done);
        reports = k.reports ∙ sym (ap (λ (x : Outcome X ℕ ℕ). x.report) done);
        state = state;
        kept = λ h. absurd (omega (arith, h, ap (λ (x : Outcome X ℕ ℕ). number x.reply) done, z));
      }

  -- a test refuses
  pub turned-away : {q : Refusal} → tests ≡ some q → Valid c a → Answers view number o c a c a (view (refuse q)) no_report
  unfolding unless refusing
  turned-away {q} t ok =
      let done : o ≡ refusing (refuse q) (abs c a) = e ∙ ap (λ (x : Option Refusal). unless x refuse work (abs c a)) t in
      record {
        ok = ok;
        replies = sym (ap (λ (x : Outcome X ℕ ℕ). view x.reply) done);
        reports = sym (ap (λ (x : Outcome X ℕ ℕ). x.report) done);
        state = sym (ap (λ (x : Outcome X ℕ ℕ). x.state) done);
        kept = λ _. (refl, refl);
      }

-- settled and armed
pub done-armed : {t : Settle.Settled ℕ ℕ} {c₁ : Core} {a₁ : Arrays} {n o : ℕ} {c₂ : Core} → Settles t c₁ a₁ n o → Arms c₁ a₁ c₂
    → Works {X = Done} {R = Done} (λ x. x) (after_settling t (λ s. quiet (Ok tt) (arm s))) c₂ a₁ (Ok tt) (report_of c₂ n o (noted []))
unfolding quiet
done-armed s k = after (λ x. x) s _ (record { shape = k.shape; replies = refl; notes = refl; state = k.same })

-- ---- what the tests say

-- the verdict of a function of `refusals`, in each of its cases
pub passes : {v : Verdict} {o : Option Refusal} → verdict v ≡ o → v ≡ (Ok tt) → o ≡ none
unfolding verdict
passes e p = sym e ∙ ap verdict p

pub refuses : {v : Verdict} {o : Option Refusal} {q : Refusal} → verdict v ≡ o → v ≡ Err q → o ≡ some q
unfolding verdict
refuses e p = sym e ∙ ap verdict p

-- tests 2 and 3 leave a date below 2^59, and what the later tests say
pub in-time : (cycle last : ℕ) (rest : Option Refusal) → dates cycle last rest ≡ none → (cycle < date_end) × (rest ≡ none)
unfolding dates
in-time cycle last rest e =
    let past = not-refused (past_end cycle) _ _ e in
    (leb-false _ _ past.0, (not-refused (went_back last cycle) _ _ past.1).1)

-- ---- the structs

-- carried out: level and wake of the report are the core's
abbrev pub answer_core : {R : Type 0} → Core → R → ℕ → ℕ → Notices → CallCore R
answer_core c reply passes overflows m = record { core = c; reply = reply; report = report_of c passes overflows m }

abbrev pub done_core : Core → ℕ → ℕ → CallCore Done
done_core c passes overflows = answer_core c (Ok tt) passes overflows (noted [])

-- a refusal has the fixed report
abbrev pub refused_core : {T : Type 0} → Core → Refusal → CallCore (Result T Refusal)
refused_core c q = record { core = c; reply = Err q; report = no_report }
