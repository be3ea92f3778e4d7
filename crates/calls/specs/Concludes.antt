-- Levels, interrupt and wake of a core over its arrays are the definition's. Assumes nothing.
use Rattle.std.specs.Prelude.{◌≡◌, List, ℕ}
use Rattle.std.proofs.Common.{ap, subst, ◌∙◌}
use Rattle.model.specs.Settle
use Rattle.model.specs.Arm
use Rattle.queue.specs.Cursors.{Held}
use Rattle.device.specs.Holds.{Arrays, abs, Shape}
use Rattle.device.specs.Arms.{Ready, ArmsAny}
use Rattle.device.specs.declared.Core.{Core}
use Rattle.calls.specs.Changes.{leveled_core, leveled-abs, shape_of}

-- the queues stand in their slots again, and the state is the definition's
pub record Concludes (c : Core) (a : Arrays) (c' : Core) : Type 0 where
  pub shape : Shape c' a
  pub same : abs c' a ≡ Arm.arm (Settle.levels (abs c a))

-- whatever stands in the arrays that arming does not read
abbrev pub ConcludesAny : Core → List ℕ → List ℕ → Core → Type 0
ConcludesAny c gone_at run_at c' = (a : Arrays) → a.gone_at ≡ gone_at → a.run_at ≡ run_at → Shape c a → Concludes c a c'

-- what arming asks is not changed by the levels
pub leveled-ready : (c : Core) {c' : Core} {gone_at : List ℕ} {slots : Type 0} → c' ≡ leveled_core c
    → Ready c gone_at × Held 64 c.runs × slots
    → Ready c' gone_at × Held 64 c'.runs × slots
leveled-ready c e k = rw e (record { flight = k.0.flight; slots = k.0.slots; period = k.0.period }, k.1, k.2)

pub concludes-any : (c : Core) {gone_at run_at : List ℕ} {c₁ c₂ : Core} → c₁ ≡ leveled_core c → ArmsAny c₁ gone_at run_at c₂
    → ConcludesAny c gone_at run_at c₂
concludes-any c {gone_at} {run_at} {c₁} {c₂} el arms a eg er k =
    let all : ArmsAny (leveled_core c) gone_at run_at c₂ = subst (λ (x : Core). ArmsAny x gone_at run_at c₂) el arms in
    let x = all a eg er (shape_of c a _ k) in
    record { shape = x.shape; same = x.same ∙ ap Arm.arm (leveled-abs c a) }
