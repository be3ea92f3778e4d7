-- A reset's work: settled from the end of a power-down, cleared, leveled and armed. Assumes nothing.
use Rattle.std.specs.Prelude.{◌≡◌, ℕ, length, None}
use Rattle.std.proofs.Math.Path.{refl, ap, subst}
use Rattle.std.proofs.Common.{sym, ◌∙◌}
use Rattle.model.specs.Setters.{with_powered_down_at}
use Rattle.model.specs.Settle
use Rattle.model.specs.Arm.{arm}
use Rattle.model.specs.Calls.{dated, carried, quiet, cleared, machine}
use Rattle.model.specs.Plans.{settle_at}
use Rattle.model.specs.Call.{Machine}
use Rattle.queue.specs.Cursors.{Held}
use Rattle.device.specs.Holds.{Arrays, abs, Valid}
use Rattle.device.specs.Settles.{Settles}
use Rattle.device.specs.Arms.{Ready}
use Rattle.device.specs.declared.Core.{Core}
use Rattle.calls.specs.Answers.{dated_work, Works, after, done_core}
use Rattle.calls.specs.Changes.{with_control_of, cleared_core, cleared-abs, cleared-shape, put-down-ok, ready}
use Rattle.model.specs.Names.{Done}
use Rattle.calls.specs.declared.answers.CallCore.{CallCore}
use Rattle.calls.specs.Concludes.{ConcludesAny}

-- what arming asks, of the cleared core
pub cleared-ready : {c : Core} {a : Arrays} {c' : Core} → Valid c a → c' ≡ cleared_core c
    → Ready c' a.gone_at × Held 64 c'.runs × (length a.run_at ≡ 64)
cleared-ready {c} {a} ok e =
    subst (λ (x : Core). Ready x a.gone_at × Held 64 x.runs × (length a.run_at ≡ 64)) (sym e)
    (ready (cleared_core c) a (cleared-shape c a ok.shape) ok.within.period_high)

module _ (cycle : ℕ) {c : Core} {a : Arrays} (ok : Valid c a) {from : Core}
    (up : from ≡ with_control_of (with_powered_down_at None c.control) c) where
  pub from-ok : Valid from a
  from-ok = subst (λ (x : Core). Valid x a) (sym up) (put-down-ok cycle c a ok None)

  pub restarted : {c₁ : Core} {a₁ : Arrays} {n o : ℕ} {c₂ c₃ : Core} {r : CallCore Done} → Settles (settle_at cycle (abs from a)) c₁ a₁ n o
      → c₂ ≡ cleared_core c₁
      → ConcludesAny c₂ a₁.gone_at a₁.run_at c₃ → r ≡ done_core c₃ n o
      → Works (λ x. x) (dated_work cycle (machine cycle Machine.reset) (abs c a)) r.core a₁ r.reply r.report
  unfolding carried machine quiet dated
  restarted {c₁} {a₁} {n} {o} {c₃ = c₃} s ec concludes same =
      let settled = subst (λ (x : Core). Settles (settle_at cycle (abs x a)) c₁ a₁ n o) up s in
      let k =
      subst (λ (x : Core). ConcludesAny x a₁.gone_at a₁.run_at c₃) ec concludes a₁ refl refl (cleared-shape c₁ a₁ s.ok.shape) in
      subst (λ (x : CallCore Done). Works (λ w. w) (dated_work cycle (machine cycle Machine.reset) (abs c a)) x.core a₁ x.reply x.report)
      (sym same)
      (after (λ x. x) settled _
      (record {
        shape = k.shape;
        replies = refl;
        notes = refl;
        state = k.same ∙ ap (λ u. arm (Settle.levels u)) (cleared-abs c₁ a₁);
      }))
