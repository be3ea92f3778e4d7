-- What FIFO writes and the other writes share: settled, then the access, then levels, interrupt and wake, and then the report.
-- Assumes nothing.
use Rattle.std.specs.Prelude.{◌≡◌, refl, List, length}
use Rattle.std.proofs.Common.{sym, ◌∙◌}
use Rattle.std.proofs.Math.Path.{ap, subst}
use Prim.Native.Nat.{ℕ, ◌≤◌}
use Rattle.model.specs.State
use Rattle.model.specs.Settle
use Rattle.model.specs.Arm
use Rattle.model.specs.Tests.{period_limit}
use Rattle.model.specs.Registers.{Access, concluded}
use Rattle.model.specs.Calls.{after_settling}
use Rattle.model.specs.declared.Report.{Report}
use Rattle.model.specs.Names.{Write}
use Rattle.queue.specs.Cursors.{Held}
use Rattle.device.specs.Holds.{Arrays, abs, Shape}
use Rattle.device.specs.Settles.{Settles}
use Rattle.device.specs.Arms.{Ready}
use Rattle.device.specs.declared.Core.{Core}
use Rattle.calls.specs.Answers.{Accesses, Works, after, report_of, answer_core}
use Rattle.calls.specs.declared.answers.CallCore.{CallCore}
use Rattle.calls.specs.Concludes as Concluding
use Rattle.access.specs.declared.store.PlaceWrite.{PlaceWrite}

-- the core with levels, interrupt and wake of the definition; reply and notices are the access's
pub record Concluded (p : PlaceWrite) (a : Arrays) (passes overflows : ℕ) (r : CallCore Write) : Type 0 where
  pub shape : Shape r.core a
  pub same : abs r.core a ≡ Arm.arm (Settle.levels (abs p.core a))
  pub replies : r.reply ≡ p.reply
  pub reports : r.report ≡ report_of r.core passes overflows p.notices

-- whatever stands in the arrays that arming does not read
abbrev pub ConcludesAny : PlaceWrite → List ℕ → List ℕ → ℕ → ℕ → CallCore Write → Type 0
ConcludesAny p gone_at run_at passes overflows r =
    (a : Arrays) → a.gone_at ≡ gone_at → a.run_at ≡ run_at → Shape p.core a → Concluded p a passes overflows r

pub concludes-any : (p : PlaceWrite) {gone_at run_at : List ℕ} {passes overflows : ℕ} {c : Core} {r : CallCore Write}
    → Concluding.ConcludesAny p.core gone_at run_at c
    → r ≡ answer_core c p.reply passes overflows p.notices → ConcludesAny p gone_at run_at passes overflows r
concludes-any p {passes = passes} {overflows = overflows} concludes e a eg er k =
    let x = concludes a eg er k in
    subst (λ (w : CallCore Write). Concluded p a passes overflows w) (sym e)
    (record { shape = x.shape; same = x.same; replies = refl; reports = refl })

module _ {t : Settle.Settled ℕ ℕ} {c₁ : Core} {a₁ : Arrays} {n o : ℕ} (s : Settles t c₁ a₁ n o) (work : State.Uart ℕ ℕ → Access Write ℕ ℕ)
    {p : PlaceWrite} {a₂ : Arrays} (x : Accesses (λ r. r) (work (abs c₁ a₁)) p.core a₂ p.reply p.notices) where
  -- what arming asks, where the access keeps the period
  pub access-ready : (work (abs c₁ a₁)).state.control.period ≡ c₁.control.period
      → Ready p.core a₂.gone_at × Held 64 p.core.runs × (length a₂.run_at ≡ 64)
  access-ready same = (
    record {
      flight = x.shape.flight;
      slots = x.shape.gone_at_slots;
      period =
          subst (λ (m : ℕ). m ≤ period_limit) (sym (ap (λ (u : State.Uart ℕ ℕ). u.control.period) x.state ∙ same))
          s.ok.within.period_high;
    },
    x.shape.runs,
    x.shape.run_date_slots,
  )

  pub concluded-works : {r : CallCore Write} → Concluded p a₂ n o r
      → Works (λ w. w) (after_settling t (λ u. concluded (work u))) r.core a₂ r.reply r.report
  unfolding concluded
  concluded-works {r} k =
      subst (λ (q : Report). Works (λ w. w) (after_settling t (λ u. concluded (work u))) r.core a₂ r.reply q) (sym k.reports)
      (after (λ w. w) s (λ u. concluded (work u))
      (record {
        shape = k.shape;
        replies = k.replies ∙ x.replies;
        notes = x.notes;
        state = k.same ∙ ap (λ (u : State.Uart ℕ ℕ). Arm.arm (Settle.levels u)) x.state;
      }))
