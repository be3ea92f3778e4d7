-- Passes and overflows of a settling are few, so that the sums over two settlings fit; the work of a clock change.
-- Assumes nothing.
use Rattle.std.specs.Prelude.{◌≡◌, List, [], ◌∷◌, ℕ, ◌+◌, ◌≤◌, ◌<◌, length}
use Rattle.std.proofs.Common.{sym, ap, subst, ◌∙◌, arith}
use Rattle.std.proofs.Math.Option.{Option, none, some}
use Rattle.model.specs.State.{OnTheLine, Uart}
use Rattle.model.specs.Settle.{Settled, found, settle, pending, on_the_line}
use Rattle.model.specs.Limits.{Within}
use Rattle.model.specs.Tests.{date_end, period_limit}
use Rattle.model.specs.Calls.{dated, clocked, carried, machine}
use Rattle.model.specs.Plans.{settle_at}
use Rattle.model.specs.Call.{Machine}
use Rattle.model.proofs.Keeps.Parts.{through}
use Rattle.model.proofs.Keeps.Dated.{moved-parts}
use Rattle.calls.specs.Answers.{dated_work, Works, done_core}
use Rattle.calls.specs.Changes.{clocked_core, clocked-ok}
use Rattle.calls.specs.Done.{armed-done}
use Rattle.model.specs.Names.{Done}
use Rattle.calls.specs.declared.answers.CallCore.{CallCore}
use Rattle.model.specs.Events.{passes_in, overflows_in}
use Rattle.model.proofs.Laws.Events.{passes_append, overflows-append, overflows-low}
use Rattle.model.proofs.Ends.NothingDue.{settle-passes}
use Rattle.device.specs.Settles.{Settles}
use Rattle.device.specs.Arms.{ArmsAny}
use Rattle.device.specs.Holds.{Arrays, abs, Valid}
use Rattle.device.specs.declared.Core.{Core}

one_on : {H : Type 0} (o : Option (OnTheLine H)) → on_the_line o ≤ 1
unfolding on_the_line
one_on none = omega arith
one_on (some l) = omega arith

few-passes : (now : ℕ) (u : Uart ℕ ℕ) → Within u → passes_in (settle now u).events ≤ 2052
unfolding pending
few-passes now u w = omega (arith, settle-passes now u, w.host, one_on u.receiving)

-- of a settling over parts
pub few : (now : ℕ) (u : Uart ℕ ℕ) {c : Core} {a : Arrays} {n o : ℕ} → Within u → Settles (settle now u) c a n o → (n ≤ 2052) × (o ≤ 2052)
few now u w s =
    let p = s.gives.passes in
    let o = s.gives.overflows in
    (omega (arith, p, few-passes now u w), omega (arith, o, overflows-low (settle now u).events, few-passes now u w))

-- the same of one that moves the last date first
pub few-at : (now : ℕ) (u : Uart ℕ ℕ) {c : Core} {a : Arrays} {n o : ℕ} → Within u → now < date_end → Settles (settle_at now u) c a n o
    → (n ≤ 2052) × (o ≤ 2052)
few-at now u w h s = few now (dated now u) (through u (dated now u) (moved-parts now u h) w) s

-- two settlings, the period set between them
pub twice : (now : ℕ) (u : Uart ℕ ℕ) {c₁ : Core} {a₁ : Arrays} {n₁ o₁ : ℕ} {c₂ : Core} {a₂ : Arrays} {n₂ o₂ : ℕ} (period : ℕ)
    → Settles (settle_at now u) c₁ a₁ n₁ o₁ → Settles (settle now (abs (clocked_core period c₁) a₁)) c₂ a₂ n₂ o₂
    → Settles (found (settle_at now u).events (settle now (clocked period (settle_at now u).state))) c₂ a₂ (n₁ + n₂) (o₁ + o₂)
unfolding clocked
twice now u {c₁ = c₁} {a₁ = a₁} {n₁ = n₁} {o₁ = o₁} {n₂ = n₂} {o₂ = o₂} period first second =
    let t : Settled ℕ ℕ = settle_at now u in
    let again : settle now (abs (clocked_core period c₁) a₁) ≡ settle now (clocked period t.state) =
    ap (λ (v : Uart ℕ ℕ). settle now (clocked period v)) first.gives.state in
    record {
      ok = second.ok;
      gives = record {
        state = second.gives.state ∙ ap (λ (x : Settled ℕ ℕ). x.state) again;
        passes = omega (
          arith,
          first.gives.passes,
          second.gives.passes,
          ap (λ (x : Settled ℕ ℕ). passes_in x.events) again,
          passes_append t.events (settle now (clocked period t.state)).events,
        );
        overflows = omega (
          arith,
          first.gives.overflows,
          second.gives.overflows,
          ap (λ (x : Settled ℕ ℕ). overflows_in x.events) again,
          overflows-append t.events (settle now (clocked period t.state)).events,
        );
      };
    }

-- ---- over parts, from the core with the period set

module _ (now period : ℕ) (low : period ≤ period_limit) {c₁ : Core} {a₁ : Arrays} (ok : Valid c₁ a₁) {from : Core}
    (set : from ≡ clocked_core period c₁) where
  pub from-ok : Valid from a₁
  from-ok = subst (λ (x : Core). Valid x a₁) (sym set) (clocked-ok now c₁ a₁ ok period low)

  second-of : {c₂ : Core} {a₂ : Arrays} {n₂ o₂ : ℕ} → Settles (settle now (abs from a₁)) c₂ a₂ n₂ o₂
      → Settles (settle now (abs (clocked_core period c₁) a₁)) c₂ a₂ n₂ o₂
  second-of {c₂} {a₂} {n₂} {o₂} s = subst (λ (x : Core). Settles (settle now (abs x a₁)) c₂ a₂ n₂ o₂) set s

  -- the sums fit
  pub sums-fit : {c : Core} {a : Arrays} {n₁ o₁ : ℕ} {c₂ : Core} {a₂ : Arrays} {n₂ o₂ : ℕ} → Valid c a → now < date_end
      → Settles (settle_at now (abs c a)) c₁ a₁ n₁ o₁ → Settles (settle now (abs from a₁)) c₂ a₂ n₂ o₂ → (n₁ + n₂ ≤ 4104) × (o₁ + o₂ ≤ 4104)
  sums-fit {c} {a} begun h first second =
      let one = few-at now (abs c a) begun.within h first in
      let two = few now (abs from a₁) from-ok.within second in
      (omega (arith, one.0, two.0), omega (arith, one.1, two.1))

  pub reclocks : {c : Core} {a : Arrays} {n₁ o₁ : ℕ} {c₂ : Core} {a₂ : Arrays} {n₂ o₂ : ℕ} {c₃ : Core} {r : CallCore Done} → Valid c a
      → Settles (settle_at now (abs c a)) c₁ a₁ n₁ o₁ → Settles (settle now (abs from a₁)) c₂ a₂ n₂ o₂
      → ArmsAny c₂ a₂.gone_at a₂.run_at c₃
      → r ≡ done_core c₃ (n₁ + n₂) (o₁ + o₂)
      → Works (λ x. x) (dated_work now (machine now (Machine.clock_change period)) (abs c a)) r.core a₂ r.reply r.report
  unfolding carried machine
  reclocks {c} {a} _ first second arms same = armed-done (twice now (abs c a) period first (second-of second)) arms same
