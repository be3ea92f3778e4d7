-- Bytes land, start and wait whatever the timeouts do: of the line's marks a landing and a start need none but the date when the
-- line is free. Each pass takes a timeout, or does what it does with the other marks wiped. Assumes nothing.
use Rattle.model.specs.declared.Source.{Source}
use Rattle.std.specs.Prelude.{◌≡◌, ℕ, ltb, length, Some, None}
use Rattle.std.proofs.Math.Path.{refl, sym, ap}
use Rattle.std.proofs.Common.{subst, ◌∙◌}
use Rattle.std.proofs.Math.Option.{Option, none, some}
use mathlib.Core.List.{List, [], ◌∷◌}
use Rattle.model.specs.Numbers.{choose}
use Rattle.model.specs.State.{Run, OnTheLine, Uart, line_of}
use Rattle.model.specs.Setters.{with_line_of}
use Rattle.model.specs.Events.{Event, departure, timeout, landing, nothing}
use Rattle.model.specs.Line.{after_date, timeout_at, start, fate}
use Rattle.model.specs.Settle.{Pass, nothing_due, timed_out, landed, in_frame, begun, before_start, idle, line_free, pass_on, pass}
use Rattle.model.proofs.Laws.Choose.{choose-ind, choose-true, choose-false, choose-nat}
use Rattle.model.proofs.Ends.Passes.{apart, Takes, pass-law, time_out-free, land-free}
use Rattle.theorems.specs.TwoSteps.Later.{Closed, closed-due, start-closed}
use Rattle.model.specs.declared.Line.{Line}
use Rattle.model.specs.declared.Settings.{Settings}
use Rattle.model.specs.declared.Fate.{Fate}

-- ---- a state with nothing noted on its line

-- no bit is up, no source is noted and no idle line is open
abbrev pub wiped : ℕ → Line
wiped free = record { int_raw = 0; rx_mistimed = Source.None; idle_since = None; line_free_at = free }

abbrev pub bare : {H W : Type 0} → Uart H W → Uart H W
bare u = with_line_of (wiped (line_of u).line_free_at) u

module _ {H W : Type 0} (s : Settings) (date : ℕ) where
  -- ---- a pass from it

  abbrev pub bare_pass : Pass H W → Pass H W
  bare_pass p = record { event = p.event; state = bare p.state }

  abbrev pub move : Uart H W → Pass H W
  move u = bare_pass (pass s date (bare u))

  timed_out-bare : (u : Uart H W) → bare (timed_out s u).state ≡ bare u
  unfolding timed_out
  timed_out-bare u = ap (λ (n : ℕ). with_line_of (wiped n) u) (time_out-free s _ (line_of u))

  landed-bare : (f : Fate) (l : OnTheLine H) (u : Uart H W) → bare_pass (landed s f l (bare u)) ≡ bare_pass (landed s f l u)
  unfolding landed
  landed-bare f l u =
      ap (λ (n : ℕ). record { event = (landed s f l u).event; state = with_line_of (wiped n) (landed s f l u).state })
      (land-free s f l.frame (line_of (bare u)) ∙ sym (land-free s f l.frame (line_of u)))

  -- with a byte on the line: nothing, or its landing
  frame_move : OnTheLine H → Uart H W → Pass H W
  frame_move l u =
      choose (ltb date (line_of u).line_free_at) (nothing_due date u) (bare_pass (landed s (fate s (length u.rx) l.frame) l u))

  in_frame-bare : (l : OnTheLine H) (u : Uart H W) → Closed (line_of u) → bare_pass (in_frame s date l u) ≡ frame_move l (bare u)
  unfolding in_frame nothing_due frame_move
  in_frame-bare l u c =
      ap bare_pass (choose-false _ _ (closed-due s date (line_of u) c))
      ∙ sym (choose-nat bare_pass _ refl (landed-bare _ l u))

  on_line : (l : OnTheLine H) (u : Uart H W) → u.receiving ≡ some l → move u ≡ frame_move l (bare u)
  unfolding pass pass_on
  on_line l u e = ap (λ r. bare_pass (pass_on s date r (bare u))) e ∙ in_frame-bare l (bare u) refl

  -- ---- each pass is such a move, or takes a timeout and leaves the same move to do

  abbrev pub MovedTo : Uart H W → Event H W → Uart H W → Type 0
  MovedTo u (departure at b) v = move u ≡ record { event = departure at b; state = bare v }
  MovedTo u (timeout at) v = move v ≡ move u
  MovedTo u (landing at b f) v = move u ≡ record { event = landing at b f; state = bare v }
  MovedTo u (nothing at) v = move u ≡ record { event = nothing at; state = bare v }

  abbrev pub Moved : Uart H W → Pass H W → Type 0
  Moved u p = MovedTo u p.event p.state

  out-moves : (u v : Uart H W) → move v ≡ move u → Moved u (timed_out s v)
  unfolding timed_out
  out-moves u v h = ap (λ w. bare_pass (pass s date w)) (timed_out-bare v) ∙ h

  in_frame-moves : (l : OnTheLine H) (u v : Uart H W) → move u ≡ frame_move l (bare v) → move v ≡ frame_move l (bare v)
      → Moved u (in_frame s date l v)
  unfolding in_frame nothing_due landed frame_move
  in_frame-moves l u v hu hv =
      choose-ind (Moved u) _ (λ _. out-moves u v (hv ∙ sym hu))
      (λ _. choose-ind (Moved u) _ (λ t. hu ∙ choose-true _ _ t) (λ t. hu ∙ choose-false _ _ t ∙ landed-bare _ l v))

  idle-moves : (u : Uart H W) → move u ≡ bare_pass (idle s date (bare u)) → Moved u (idle s date u)
  unfolding idle nothing_due
  idle-moves u h =
      choose-ind (Moved u) _ (λ _. out-moves u u refl)
      (λ _. h ∙ ap bare_pass (choose-false _ _ (closed-due s date (line_of (bare u)) refl)))

  before_start-moves : (at : ℕ) (b : H) (bs : List H) (u : Uart H W) → move u ≡ bare_pass (before_start s date at b bs (bare u))
      → Moved u (before_start s date at b bs u)
  unfolding before_start nothing_due begun start
  before_start-moves at b bs u h =
      let on = h ∙ ap bare_pass (choose-false _ _ (closed-due s _ (line_of (bare u)) refl)) in
      choose-ind (Moved u) _ (λ _. out-moves u u refl)
      (λ _. choose-ind (Moved u) _ (λ t. on ∙ ap bare_pass (choose-true _ _ t))
      (λ t. in_frame-moves _ u (begun s at b bs u)
      (on ∙ ap bare_pass (choose-false _ _ t) ∙ in_frame-bare _ (begun s at b bs (bare u)) (start-closed s at (line_of (bare u)) refl))
      (on_line _ (begun s at b bs u) refl)))

  line_free-moves : (rs : List Run) (bs : List H) (u : Uart H W) → move u ≡ bare_pass (line_free s date rs bs (bare u))
      → Moved u (line_free s date rs bs u)
  unfolding line_free
  line_free-moves [] bs u h = idle-moves u h
  line_free-moves (r ∷ rs) [] u h = idle-moves u h
  line_free-moves (r ∷ rs) (b ∷ bs) u h = before_start-moves _ b bs u h

  pass_on-moves : (l : Option (OnTheLine H)) (u : Uart H W) → u.receiving ≡ l → move u ≡ bare_pass (pass_on s date l (bare u))
      → Moved u (pass_on s date l u)
  unfolding pass_on
  pass_on-moves none u e h = line_free-moves _ _ u h
  pass_on-moves (some l) u e h = in_frame-moves l u u (on_line l u e) (on_line l u e)

  pub pass-moves : (u : Uart H W) → Moved u (pass s date u)
  unfolding pass
  pass-moves u = pass_on-moves u.receiving u refl refl

  -- with no idle line open a pass takes no timeout
  untimed : (u c : Uart H W) (e : Event H W) (v : Uart H W) → Closed (line_of c) → Takes s date c e v → MovedTo u e v
      → move u ≡ record { event = e; state = bare v }
  unfolding timeout_at after_date
  untimed u c (departure at b) v i t m = absurd t
  untimed u c (timeout at) v i t m =
      let z : None ≡ Some at = sym (ap (after_date s.timeout_time) i) ∙ t.comes in
      apart (cc)
  untimed u c (landing at b f) v i t m = m
  untimed u c (nothing at) v i t m = m

  -- a state from which a pass does what it does from a bare one
  pub as-bare : (u c : Uart H W) → pass s date u ≡ pass s date (bare c) → move u ≡ move c
  as-bare u c h = untimed u (bare c) _ _ refl (pass-law s date (bare c)).takes (subst (Moved u) h (pass-moves u))
