-- A wake's work: settled from the cleared Deadline, and armed. Assumes nothing.
use Rattle.std.specs.Prelude.{◌≡◌, ℕ}
use Rattle.std.proofs.Common.{sym, subst}
use Rattle.model.specs.Calls.{dated, carried, machine}
use Rattle.model.specs.Plans.{settle_at}
use Rattle.model.specs.Call.{Machine}
use Rattle.device.specs.Holds.{Arrays, abs, Valid}
use Rattle.device.specs.Settles.{Settles}
use Rattle.device.specs.Arms.{ArmsAny}
use Rattle.device.specs.declared.Core.{Core}
use Rattle.calls.specs.Answers.{dated_work, Works, done_core}
use Rattle.calls.specs.Changes.{called_core, called-ok}
use Rattle.calls.specs.Done.{armed-done}
use Rattle.model.specs.Names.{Done}
use Rattle.calls.specs.declared.answers.CallCore.{CallCore}

module _ (cycle : ℕ) {c : Core} {a : Arrays} (ok : Valid c a) {from : Core} (called : from ≡ called_core cycle c) where
  pub from-ok : Valid from a
  from-ok = subst (λ (x : Core). Valid x a) (sym called) (called-ok cycle c a ok)

  pub woken : {c₁ : Core} {a₁ : Arrays} {n o : ℕ} {c₂ : Core} {r : CallCore Done} → Settles (settle_at cycle (abs from a)) c₁ a₁ n o
      → ArmsAny c₁ a₁.gone_at a₁.run_at c₂ → r ≡ done_core c₂ n o
      → Works (λ x. x) (dated_work cycle (machine cycle Machine.wake) (abs c a)) r.core a₁ r.reply r.report
  unfolding carried machine dated
  woken {c₁} {a₁} {n} {o} s arms same = armed-done (subst (λ (x : Core). Settles (settle_at cycle (abs x a)) c₁ a₁ n o) called s) arms same
