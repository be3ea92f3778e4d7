-- What lands by an earlier date, and then by a later one, is what lands by the later, and the same waits after it: the moves of
-- Bare, one after another, from every state. Assumes nothing.
use Rattle.std.specs.Prelude.{◌≡◌, ℕ, ◌≤◌, Bool, true, false, List, [], ◌∷◌, ◌++◌}
use Rattle.std.proofs.Math.Path.{refl, ap}
use Rattle.std.proofs.Common.{sym, ap₂, subst, ◌∙◌, true≢false}
use Rattle.std.proofs.lemmas.Bool.{false≢true}
use Rattle.model.specs.State.{Uart, line_of}
use Rattle.model.specs.Events.{Event, departure, timeout, landing, nothing, goes_on, landings_in}
use Rattle.model.specs.Settle.{Pass, pass, passes}
use Rattle.model.proofs.Ends.Through.{Through, ends, goes, through}
use Rattle.theorems.specs.TwoSteps.Later.{start-closed, Follows, pass-later}
use Rattle.theorems.specs.TwoSteps.Bare.{bare, bare_pass, move, MovedTo, Moved, pass-moves, as-bare}
use Rattle.model.specs.declared.Settings.{Settings}
use Rattle.model.specs.declared.Fate.{Fate}

module _ {H W : Type 0} (s : Settings) (date : ℕ) where
  -- a move after another, as long as a byte lands: what landed, and the state that the last one leaves
  data Moves : Uart H W → List (ℕ × H × Fate) → Uart H W → Type 0 where
    stop : {u v : Uart H W} {e : Event H W} → move s date u ≡ record { event = e; state = v } → goes_on e ≡ false → Moves u [] v
    next : {u v w : Uart H W} {at : ℕ} {b : H} {f : Fate} {ls : List (ℕ × H × Fate)}
        → move s date u ≡ record { event = landing at b f; state = v } → Moves v ls w → Moves u ((at, b, f) ∷ ls) w

  same_move : (u : Uart H W) {p q : Pass H W} → move s date u ≡ p → move s date u ≡ q → (p.event ≡ q.event) × (p.state ≡ q.state)
  same_move u e f = (ap (λ (p : Pass H W). p.event) (sym e ∙ f), ap (λ (p : Pass H W). p.state) (sym e ∙ f))

  moves-one : {u v w : Uart H W} {ks ls : List (ℕ × H × Fate)} → Moves u ks v → Moves u ls w → (ks ≡ ls) × (v ≡ w)
  unfolding goes_on landings_in
  moves-one (stop {u = u} e g) (stop e' g') = (refl, (same_move u e e').1)
  moves-one (stop {u = u} e g) (next e' t) = absurd (false≢true (sym g ∙ ap goes_on (same_move u e e').0))
  moves-one (next {u = u} e t) (stop e' g') = absurd (true≢false (ap goes_on (same_move u e e').0 ∙ g'))
  moves-one (next {u = u} e t) (next {w = w} {ls = ls} e' t') =
      let (x, y) = same_move u e e' in
      let (p, q) = moves-one t (subst (λ v. Moves v ls w) (sym y) t') in
      (ap₂ (λ (a : Event H W) l. landings_in (a ∷ []) ++ l) x p, q)

  resume : {u v w : Uart H W} {ls : List (ℕ × H × Fate)} → move s date v ≡ move s date u → Moves v ls w → Moves u ls w
  resume h (stop e g) = stop (sym h ∙ e) g
  resume h (next e t) = next (sym h ∙ e) t

  -- the passes are moves, timeouts aside
  ends-moves : (u v : Uart H W) (e : Event H W) → MovedTo s date u e v → goes_on e ≡ false → Moves u (landings_in (e ∷ [])) (bare v)
  unfolding landings_in goes_on
  ends-moves u v (departure at b) m g = stop m refl
  ends-moves u v (timeout at) m g = absurd (true≢false g)
  ends-moves u v (landing at b f) m g = absurd (true≢false g)
  ends-moves u v (nothing at) m g = stop m refl

  goes-moves : (u v : Uart H W) (e : Event H W) (es : List (Event H W)) {w : Uart H W} → MovedTo s date u e v → goes_on e ≡ true
      → Moves v (landings_in es) w → Moves u (landings_in (e ∷ es)) w
  unfolding landings_in goes_on
  goes-moves u v (departure at b) es m g t = absurd (false≢true g)
  goes-moves u v (timeout at) es m g t = resume m t
  goes-moves u v (landing at b f) es m g t = next m (resume refl t)
  goes-moves u v (nothing at) es m g t = absurd (false≢true g)

  through-moves : {u v : Uart H W} {es : List (Event H W)} → Through s date u es v → Moves u (landings_in es) (bare v)
  through-moves (ends {u = u} {v = v} {e = x} e g) = ends-moves u v x (subst (Moved s date u) e (pass-moves s date u)) g
  through-moves (goes {u = u} {v = v} {e = x} {es = es} e g t) =
      goes-moves u v x es (subst (Moved s date u) e (pass-moves s date u)) g (through-moves t)

-- ---- to a later date

module _ {H W : Type 0} (s : Settings) (a b : ℕ) (le : a ≤ b) where
  -- what a move `p` at `a` says of one at `b`: if something landed, that is the same move; else it left as much to do
  abbrev Onward : Uart H W → Pass H W → Bool → Type 0
  Onward u p true = move s b u ≡ p
  Onward u p false = move s b p.state ≡ move s b u

  onward : (u : Uart H W) (p : Pass H W) (go : Bool) → Follows s a b le (bare u) p go → Onward u (bare_pass s a p) go
  onward u p true h = ap (bare_pass s b) h
  onward u p false h = as-bare s b p.state u h

  move-later : (u : Uart H W) → Onward u (move s a u) (goes_on (move s a u).event)
  move-later u =
      onward u (pass s a (bare u)) (goes_on (pass s a (bare u)).event)
      (pass-later s a b le (bare u) (record { alone = λ _ _. refl; starts = λ at. start-closed s at (line_of (bare u)) refl }))

  moved_later : (u : Uart H W) {v : Uart H W} {e : Event H W} {go : Bool} → move s a u ≡ record { event = e; state = v } → goes_on e ≡ go
      → Onward u (record { event = e; state = v }) go
  moved_later u m g = subst (Onward u _) g (subst (λ p. Onward u p (goes_on p.event)) m (move-later u))

  moves-on : {u v w : Uart H W} {ks ls : List (ℕ × H × Fate)} → Moves s a u ks v → Moves s b v ls w → Moves s b u (ks ++ ls) w
  unfolding goes_on
  moves-on (stop {u = u} e g) t = resume s b (moved_later u e g) t
  moves-on (next {u = u} e t) t' = next (moved_later u e refl) (moves-on t t')

  -- from every state, what lands and what waits
  pub passes-bare : (u : Uart H W)
      → (landings_in (passes s a u).events ++ landings_in (passes s b (passes s a u).state).events ≡ landings_in (passes s b u).events)
      × (bare (passes s b (passes s a u).state).state ≡ bare (passes s b u).state)
  passes-bare u =
      moves-one s b
      (moves-on (through-moves s a (through s a u)) (resume s b refl (through-moves s b (through s b (passes s a u).state))))
      (through-moves s b (through s b u))
