-- How to prove a fact of every pass and of the passes of a settling. Assumes nothing.
use Rattle.std.specs.Prelude.{◌≡◌, ℕ, zero, suc, ◌≤◌, min, Bool, false, length, Some, None}
use Rattle.std.proofs.Math.Path.{refl}
use Rattle.std.proofs.Common.{arith, leb-true, le-leb}
use Rattle.std.proofs.Math.Bool.{true}
use Rattle.std.proofs.Math.Option.{Option, none, some}
use mathlib.Core.List.{List, [], ◌∷◌}
use Rattle.dates.specs.Dates.{later, earlier}
use Rattle.model.specs.Numbers.{due_by}
use Rattle.model.proofs.Laws.Choose.{choose-ind}
use Rattle.model.specs.State.{Run, OnTheLine, Uart, line_of}
use Rattle.model.specs.Line.{timeout_at, fate}
use Rattle.model.specs.Settle.{Pass, nothing_due, timed_out, landed, in_frame, begun, before_start, idle, line_free, pass_on, pass}
use Rattle.model.specs.Settle.{passes_from, passes}
use Rattle.model.specs.Names.{Date}
use Rattle.model.specs.declared.Settings.{Settings}

earlier-due : (date at : ℕ) (d : Date) → due_by (earlier date at) d ≡ true → due_by date d ≡ true
unfolding due_by
earlier-due date at None h = h
earlier-due date at (Some a) h =
    let b : a ≤ min date at = leb-true a (min date at) h in
    le-leb a date (omega arith)

-- a pass is a timeout that is due, or nothing, or a landing, or one of these after a start
module _ {H W : Type 0} (s : Settings) (date : ℕ) (P : Uart H W → Pass H W → Type 0)
    (out : (u : Uart H W) → due_by date (timeout_at s (line_of u)) ≡ true → P u (timed_out s u))
    (nothing : (u : Uart H W) → P u (nothing_due date u))
    (lands : (u : Uart H W) (l : OnTheLine H) → u.receiving ≡ some l → P u (landed s (fate s (length u.rx) l.frame) l u))
    (starts : (u : Uart H W) (r : Run) (rs : List Run) (b : H) (bs : List H) (p : Pass H W) → u.receiving ≡ none → u.host_runs ≡ r ∷ rs
    → u.host ≡ b ∷ bs → P (begun s (later r.date (line_of u).line_free_at) b bs u) p → P u p) where
  in_frame-cases : (l : OnTheLine H) (u : Uart H W) → u.receiving ≡ some l → P u (in_frame s date l u)
  unfolding in_frame
  in_frame-cases l u e = choose-ind (P u) _ (λ h. out u h) (λ _. choose-ind (P u) _ (λ _. nothing u) (λ _. lands u l e))

  line-idle : (u : Uart H W) → P u (idle s date u)
  unfolding idle
  line-idle u = choose-ind (P u) _ (λ h. out u h) (λ _. nothing u)

  line-free : (rs : List Run) (bs : List H) (u : Uart H W) → u.receiving ≡ none → u.host_runs ≡ rs → u.host ≡ bs
      → P u (line_free s date rs bs u)
  unfolding line_free before_start begun
  line-free [] bs u e q h = line-idle u
  line-free (r ∷ rs) [] u e q h = line-idle u
  line-free (r ∷ rs) (b ∷ bs) u e q w =
      choose-ind (P u) _ (λ h. out u (earlier-due date _ _ h))
      (λ _. choose-ind (P u) _ (λ _. nothing u) (λ _. starts u r rs b bs _ e q w (in_frame-cases _ (begun s _ b bs u) refl)))

  pass_on-cases : (l : Option (OnTheLine H)) (u : Uart H W) → u.receiving ≡ l → P u (pass_on s date l u)
  unfolding pass_on
  pass_on-cases none u e = line-free u.host_runs u.host u e refl refl
  pass_on-cases (some l) u e = in_frame-cases l u e

  pub pass-cases : (u : Uart H W) → P u (pass s date u)
  unfolding pass
  pass-cases u = pass_on-cases u.receiving u refl

-- what every pass does to a state, and what holds from a state to itself and on from one to the next, the passes do
pub passes_on : {H W : Type 0} (R : Uart H W → Uart H W → Type 0) (s : Settings) (date : ℕ) → ((u : Uart H W) → R u u)
    → ((u v w : Uart H W) → R u v → R v w → R u w) → ((u : Uart H W) → R u (pass s date u).state)
    → (k : ℕ) (go : Bool) (u : Uart H W) → R u (passes_from s date k go u).state
unfolding passes_from
passes_on R s date same on one zero false u = same u
passes_on R s date same on one zero true u = same u
passes_on R s date same on one (suc k) false u = same u
passes_on R s date same on one (suc k) true u = on u _ _ (one u) (passes_on R s date same on one k _ _)

-- ---- a fact that every pass keeps

-- what a timeout, a landing and a start keep
pub record KeptOnLine {H W : Type 0} (s : Settings) (P : Uart H W → Type 0) : Type 0 where
  pub timeout : (u : Uart H W) → P u → P (timed_out s u).state
  pub landing : (l : OnTheLine H) (u : Uart H W) → P u → P (landed s (fate s (length u.rx) l.frame) l u).state
  pub start : (at : ℕ) (b : H) (bs : List H) (u : Uart H W) → u.receiving ≡ none → u.host ≡ b ∷ bs → P u → P (begun s at b bs u)

module _ {H W : Type 0} (s : Settings) (P : Uart H W → Type 0) (k : KeptOnLine s P) where
  -- a pass keeps it
  pub pass-ind : (date : ℕ) (u : Uart H W) → P u → P (pass s date u).state
  unfolding nothing_due
  pass-ind date =
      pass-cases s date (λ (u : Uart H W) (p : Pass H W). P u → P p.state) (λ u _. k.timeout u) (λ u p. p) (λ u l _. k.landing l u)
      (λ u r rs b bs p e _ h on q. on (k.start _ b bs u e h q))

  -- all passes keep it
  pub passes-ind : (date : ℕ) (u : Uart H W) → P u → P (passes s date u).state
  unfolding passes
  passes-ind date u = passes_on (λ (v w : Uart H W). P v → P w) s date (λ v p. p) (λ v w x a b p. b (a p)) (pass-ind date) _ true u
