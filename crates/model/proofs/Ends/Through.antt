-- The passes of a settling end: each but the last finds a timeout or a landing, the last finds nothing due, and they are
-- at most 2 × pending + 2. Assumes nothing.
use Rattle.std.specs.Prelude.{◌≡◌, Bool, List, [], ◌∷◌, ◌++◌, length, Some, None}
use Rattle.std.proofs.Math.Path.{refl, ap}
use Rattle.std.proofs.Common.{sym, ap₂, subst, ◌∙◌, arith, true≢false}
use Prim.Native.Nat.{ℕ, zero, suc, ◌+◌, ◌*◌, ◌≤◌, ◌<◌}
use Rattle.std.proofs.Math.Bool.{true, false, false≢true}
use Rattle.model.specs.State.{Uart, line_of}
use Rattle.model.specs.Events.{Event, departure, timeout, landing, nothing, total, goes_on, one_pass, passes_in}
use Rattle.model.specs.Line.{after_date, timeout_at}
use Rattle.model.specs.Settle.{Pass, pass, found, ended, passes_from, pending, passes}
use Rattle.model.specs.Limits.{All, nil, cons}
use Rattle.model.proofs.Ends.Passes.{apart, LineQuiet, Kept, TakesTimeout, TakesByte, Takes, PassLaw, pass-law, kept_trans}
use Rattle.model.proofs.Ends.Fates.{landings, pass-pending, pending-underway}
use Rattle.model.specs.Names.{Date}
use Rattle.model.specs.declared.Settings.{Settings}
use Rattle.model.specs.declared.Fate.{Fate}

-- ---- the passes of a settling

-- a pass after another, as long as one finds something due: what they found, and the state that the last one leaves
pub data Through {H W : Type 0} (s : Settings) (date : ℕ) : Uart H W → List (Event H W) → Uart H W → Type 0 where
  ends : {u v : Uart H W} {e : Event H W} → pass s date u ≡ record { event = e; state = v } → goes_on e ≡ false
      → Through s date u (e ∷ []) v
  goes : {u v w : Uart H W} {e : Event H W} {es : List (Event H W)}
      → pass s date u ≡ record { event = e; state = v } → goes_on e ≡ true → Through s date v es w → Through s date u (e ∷ es) w

-- ---- what every pass that finds something brings down

open_line : Date → ℕ
open_line None = 0
open_line (Some t) = 1

open_line-le : (d : Date) → open_line d ≤ 1
unfolding open_line
open_line-le None = omega arith
open_line-le (Some t) = omega arith

due-open : (s : Settings) (at : ℕ) (d : Date) → after_date s.timeout_time d ≡ Some at → open_line d ≡ 1
unfolding open_line after_date
due-open s at None h = let e : None ≡ Some at = h in apart (cc)
due-open s at (Some t) h = refl

module _ {H W : Type 0} (s : Settings) (date : ℕ) where
  todo : Uart H W → ℕ
  todo u = 2 * pending u + open_line (line_of u).idle_since

  todo-bound : (u : Uart H W) → todo u < 2 * pending u + 2
  unfolding todo
  todo-bound u = omega (arith, open_line-le (line_of u).idle_since)

  timeout-less : (at : ℕ) (u v : Uart H W) → TakesTimeout s date u at v → todo v < todo u
  unfolding todo open_line timeout_at
  timeout-less at u v t =
      rw (pending-underway u, pending-underway v, t.closed, t.pends)
      (omega (arith, due-open s at (line_of u).idle_since t.comes))

  byte-less : (at : ℕ) (b : H) (f : Fate) (u v : Uart H W) → TakesByte s date u at b f v → todo v < todo u
  unfolding todo
  byte-less at b f u v t = rw (pending-underway u, pending-underway v, t.pends) (omega (arith, open_line-le (line_of v).idle_since))

  takes-less : (e : Event H W) (u v : Uart H W) → goes_on e ≡ true → Takes s date u e v → todo v < todo u
  unfolding goes_on
  takes-less (departure at b) u v x t = absurd t
  takes-less (timeout at) u v x t = timeout-less at u v t
  takes-less (landing at b f) u v x t = byte-less at b f u v t
  takes-less (nothing at) u v x t = absurd (false≢true x)

  -- ---- the loop of the definition makes just these passes

  law-of : {u : Uart H W} {p : Pass H W} → pass s date u ≡ p → PassLaw s date u p
  law-of {u} e = subst (PassLaw s date u) e (pass-law s date u)

  after-pass : (k : ℕ) (u v : Uart H W) (e : Event H W) (go : Bool) → goes_on e ≡ go → pass s date u ≡ record { event = e; state = v }
      → (goes_on e ≡ true → Through s date v (passes_from s date k true v).events (passes_from s date k true v).state)
      → Through s date u (e ∷ (passes_from s date k go v).events) (passes_from s date k go v).state
  unfolding passes_from
  after-pass zero u v e false g p ih = ends p g
  after-pass (suc k) u v e false g p ih = ends p g
  after-pass zero u v e true g p ih = goes p g (ih g)
  after-pass (suc k) u v e true g p ih = goes p g (ih g)

  through-from : (k : ℕ) (u : Uart H W) → todo u < k
      → Through s date u (passes_from s date k true u).events (passes_from s date k true u).state
  unfolding passes_from
  through-from zero u lt = absurd (omega arith)
  through-from (suc k) u lt =
      let p : Pass H W = pass s date u in
      after-pass k u p.state p.event (goes_on p.event) refl refl
      (λ x. through-from k p.state (omega (arith, takes-less p.event u p.state x (pass-law s date u).takes)))

  -- the passes that a settling makes, by what they found
  pub through : (u : Uart H W) → Through s date u (passes s date u).events (passes s date u).state
  unfolding passes
  through u = through-from (2 * pending u + 2) u (todo-bound u)

  -- ---- what they found is decided by the state

  same-pass : (u : Uart H W) {v w : Uart H W} {e f : Event H W} → pass s date u ≡ record { event = e; state = v }
      → pass s date u ≡ record { event = f; state = w } → (e ≡ f) × (v ≡ w)
  same-pass u a b = (ap (λ (p : Pass H W). p.event) (sym a ∙ b), ap (λ (p : Pass H W). p.state) (sym a ∙ b))

  pub through-one : {u v w : Uart H W} {es fs : List (Event H W)} → Through s date u es v → Through s date u fs w → (es ≡ fs) × (v ≡ w)
  through-one (ends {u = u} e g) (ends e' g') = let (a, b) = same-pass u e e' in (ap (λ x. x ∷ []) a, b)
  through-one (ends {u = u} e g) (goes e' g' t) = absurd (false≢true (sym g ∙ ap goes_on (same-pass u e e').0 ∙ g'))
  through-one (goes {u = u} e g t) (ends e' g') = absurd (true≢false (sym g ∙ ap goes_on (same-pass u e e').0 ∙ g'))
  through-one (goes {u = u} {es = es} e g t) (goes {w = w} {es = fs} e' g' t') =
      let (a, b) = same-pass u e e' in
      let (c, d) = through-one t (subst (λ y. Through s date y fs w) (sym b) t') in
      (ap₂ ◌∷◌ a c, d)

  -- so it is what the passes of the definition are
  pub passes-are : {u v : Uart H W} {es : List (Event H W)} → Through s date u es v → passes s date u ≡ record { state = v; events = es }
  passes-are {u} {v} {es} t =
      let (a, b) = through-one (through u) t in
      ap₂ (λ (x : Uart H W) (y : List (Event H W)). record { state = x; events = y }) b a

  -- a pass that finds something due, and the passes from where it leads; or the one that finds nothing
  pub passes_go : (u : Uart H W) {e : Event H W} {v : Uart H W} → pass s date u ≡ record { event = e; state = v } → goes_on e ≡ true
      → passes s date u ≡ found (e ∷ []) (passes s date v)
  passes_go u {v = v} p g = passes-are (goes p g (through v))

  pub passes-end : (u : Uart H W) {e : Event H W} {v : Uart H W} → pass s date u ≡ record { event = e; state = v } → goes_on e ≡ false
      → passes s date u ≡ found (e ∷ []) (ended v)
  passes-end u p g = passes-are (ends p g)

  -- ---- how many they are

  one-pass : (u v : Uart H W) (e : Event H W) → Takes s date u e v → one_pass e ≡ 1
  unfolding one_pass
  one-pass u v (departure at b) t = absurd t
  one-pass u v (timeout at) t = refl
  one-pass u v (landing at b f) t = refl
  one-pass u v (nothing at) t = refl

  -- every pass is one
  pub pass-one : (u : Uart H W) → one_pass (pass s date u).event ≡ 1
  pass-one u = one-pass u _ _ (pass-law s date u).takes

  pub through_passes : {u v : Uart H W} {es : List (Event H W)} → Through s date u es v → passes_in es ≡ length es
  unfolding passes_in total
  through_passes (ends {u = u} {v = v} {e = x} e g) = omega (arith, one-pass u v x (law-of e).takes)
  through_passes (goes {u = u} {v = v} {e = x} e g t) = omega (arith, one-pass u v x (law-of e).takes, through_passes t)

  through-bound : {u v : Uart H W} {es : List (Event H W)} → Through s date u es v → length es ≤ todo u + 1
  through-bound (ends e g) = omega arith
  through-bound (goes {u = u} {v = v} {e = x} e g t) = omega (arith, through-bound t, takes-less x u v g (law-of e).takes)

  -- 2 × pending + 2 passes at most
  pub passes-bound : (u : Uart H W) → passes_in (passes s date u).events ≤ 2 * pending u + 2
  passes-bound u = omega (arith, through_passes (through u), through-bound (through u), todo-bound u)

  -- ---- what they do

  -- what no pass touches, the passes of a settling do not
  pub through-kept : {u v : Uart H W} {es : List (Event H W)} → Through s date u es v → Kept u v
  through-kept (ends e g) = (law-of e).kept
  through-kept (goes e g t) = kept_trans (law-of e).kept (through-kept t)

  last-rests : (u v : Uart H W) (e : Event H W) → goes_on e ≡ false → Takes s date u e v → LineQuiet s date v
  unfolding goes_on
  last-rests u v (departure at b) g t = absurd t
  last-rests u v (timeout at) g t = absurd (true≢false g)
  last-rests u v (landing at b f) g t = absurd (true≢false g)
  last-rests u v (nothing at) g t = t.quiet

  -- after the last pass nothing on the line is due
  pub through-quiet : {u v : Uart H W} {es : List (Event H W)} → Through s date u es v → LineQuiet s date v
  through-quiet (ends {u = u} {v = v} {e = x} e g) = last-rests u v x g (law-of e).takes
  through-quiet (goes e g t) = through-quiet t

  -- as many bytes are pending less as passes found a landing
  pub through-pending : {u v : Uart H W} {es : List (Event H W)} → Through s date u es v → pending u ≡ pending v + total landings es
  unfolding total
  through-pending (ends {u = u} {v = v} {e = x} e g) = omega (arith, pass-pending s date x u v (law-of e).takes)
  through-pending (goes {u = u} {v = v} {e = x} e g t) = omega (arith, pass-pending s date x u v (law-of e).takes, through-pending t)

  -- ---- the last one finds nothing, and no other does

  rests-last : (u v : Uart H W) (e : Event H W) → goes_on e ≡ false → Takes s date u e v → (at : ℕ) × (e ≡ nothing at)
  unfolding goes_on
  rests-last u v (departure at b) g t = absurd t
  rests-last u v (timeout at) g t = absurd (true≢false g)
  rests-last u v (landing at b f) g t = absurd (true≢false g)
  rests-last u v (nothing at) g t = (at, refl)

  pub through-last : {u v : Uart H W} {es : List (Event H W)} → Through s date u es v
      → (fs : List (Event H W)) × (at : ℕ) × All (λ e. (d : ℕ) → ¬ (e ≡ nothing d)) fs × (es ≡ fs ++ (nothing at ∷ []))
  unfolding goes_on
  through-last (ends {u = u} {v = v} {e = x} e g) =
      let (at, is) = rests-last u v x g (law-of e).takes in ([], at, nil, ap (λ y. y ∷ []) is)
  through-last (goes {e = x} e g t) =
      let (fs, at, a, is) = through-last t in
      (x ∷ fs, at, cons (λ d q. false≢true (ap goes_on (sym q) ∙ g)) a, ap (λ l. x ∷ l) is)
