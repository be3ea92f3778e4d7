-- A dated call that answers no more than a number: refused by its tests, or carried out, with settling or without. Assumes nothing.
use Rattle.std.specs.Prelude.{◌≡◌, List, [], Ok, Err}
use Rattle.std.proofs.Math.Path.{refl, ap, subst}
use Rattle.std.proofs.Common.{sym}
use Rattle.std.proofs.Math.Option.{Option, none, some}
use Prim.Native.Nat.{ℕ}
use Rattle.model.specs.State
use Rattle.model.specs.Settle
use Rattle.model.specs.Arm.{arm}
use Rattle.model.specs.Replies.{done_number}
use Rattle.model.specs.Limits.{Within}
use Rattle.model.specs.Calls
use Rattle.model.specs.Calls.{Plan, unless, after_settling, dated, quiet, doing, receive, machine}
use Rattle.model.specs.Call.{Machine}
use Rattle.model.specs.declared.Refusal.{Refusal}
use Rattle.model.specs.declared.Report.{Report}
use Rattle.model.specs.Names.{Done}
use Rattle.replies.specs.Notices.{noted}
use Rattle.device.specs.Holds.{Arrays, abs, Shape, Valid}
use Rattle.device.specs.Settles.{Settles}
use Rattle.device.specs.Arms.{ArmsAny}
use Rattle.device.specs.declared.Core.{Core}
use Rattle.calls.specs.Answers.{dated_call, dated_work, DoneWith, Works, report_of, carried, turned-away, unsettled-works, done-armed}
use Rattle.calls.specs.Answers.{done_core, refused_core}
use Rattle.calls.specs.declared.answers.CallCore.{CallCore}

module _ (cycle : ℕ) (plan : State.Uart ℕ ℕ → Plan Done ℕ ℕ) {tests : Option Refusal} {c : Core} {a : Arrays} (ok : Valid c a)
    (e : dated_call cycle plan (abs c a) ≡ unless tests Err (Calls.carried (some cycle) (plan (abs c a))) (abs c a)) where
  pub done-carried : {c' : Core} {a' : Arrays} {reply : Done} {report : Report} → tests ≡ none
      → Within (dated_call cycle plan (abs c a)).state → done_number (dated_work cycle plan (abs c a)).reply ≡ 0
      → Works (λ x. x) (dated_work cycle plan (abs c a)) c' a' reply report → DoneWith (dated_call cycle plan) c a c' a' reply report
  done-carried t w z k = carried (λ x. x) done_number Err _ c a e t w z k

  pub done_refused : {q : Refusal} {r : CallCore Done} → tests ≡ some q → r ≡ refused_core c q
      → DoneWith (dated_call cycle plan) c a r.core a r.reply r.report
  done_refused t same =
      subst (λ (x : CallCore Done). DoneWith (dated_call cycle plan) c a x.core a x.reply x.report) (sym same)
      (turned-away (λ x. x) done_number Err _ c a e t ok)

  -- without settling
  pub done-unsettled : (change : State.Uart ℕ ℕ → State.Uart ℕ ℕ) {c' : Core} {r : CallCore Done} → plan (abs c a) ≡ doing none [] change
      → tests ≡ none → Within (dated_call cycle plan (abs c a)).state → Shape c' a → abs c' a ≡ change (dated cycle (abs c a))
      → r ≡ done_core c' 0 0 → DoneWith (dated_call cycle plan) c a r.core a r.reply r.report
  unfolding Calls.carried after_settling quiet done_number
  done-unsettled change {c'} p t w k same answer =
      let zero : done_number (dated_work cycle plan (abs c a)).reply ≡ 0 =
      ap (λ (x : Plan Done ℕ ℕ). done_number (Calls.carried (some cycle) x (abs c a)).reply) p in
      let works : Works (λ x. x) (dated_work cycle plan (abs c a)) c' a (Ok tt) (report_of c' 0 0 (noted [])) =
      subst (λ (x : Plan Done ℕ ℕ). Works (λ w. w) (Calls.carried (some cycle) x (abs c a)) c' a (Ok tt) (report_of c' 0 0 (noted [])))
      (sym p) (unsettled-works (λ x. x) change k same) in
      subst (λ (x : CallCore Done). DoneWith (dated_call cycle plan) c a x.core a x.reply x.report) (sym answer)
      (done-carried t w zero works)

-- settled and armed
pub armed-done : {t : Settle.Settled ℕ ℕ} {c₁ : Core} {a₁ : Arrays} {n o : ℕ} {c₂ : Core} {r : CallCore Done} → Settles t c₁ a₁ n o
    → ArmsAny c₁ a₁.gone_at a₁.run_at c₂
    → r ≡ done_core c₂ n o → Works (λ x. x) (after_settling t (λ s. quiet (Ok tt) (arm s))) r.core a₁ r.reply r.report
armed-done {t} {a₁ = a₁} s arms same =
    subst (λ (x : CallCore Done). Works (λ w. w) (after_settling t (λ s. quiet (Ok tt) (arm s))) x.core a₁ x.reply x.report) (sym same)
    (done-armed s (arms a₁ refl refl s.ok.shape))

-- ---- the number of a call that is carried out is 0

module _ (cycle : ℕ) (u : State.Uart ℕ ℕ) where
  pub wake-zero : done_number (dated_work cycle (machine cycle Machine.wake) u).reply ≡ 0
  unfolding Calls.carried machine after_settling quiet done_number
  wake-zero = refl

  pub reset-zero : done_number (dated_work cycle (machine cycle Machine.reset) u).reply ≡ 0
  unfolding Calls.carried machine after_settling quiet done_number
  reset-zero = refl

  pub clock-zero : (period : ℕ) → done_number (dated_work cycle (machine cycle (Machine.clock_change period)) u).reply ≡ 0
  unfolding Calls.carried machine after_settling quiet done_number
  clock-zero period = refl

  pub receive-zero : (at : ℕ) (bs : List ℕ) → done_number (dated_work cycle (receive cycle at bs) u).reply ≡ 0
  unfolding Calls.carried receive after_settling quiet done_number
  receive-zero at bs = refl
