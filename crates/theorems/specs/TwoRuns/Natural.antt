-- Settling and arming look into no byte: each commutes with a change of bytes. Assumes nothing.
use Rattle.std.specs.Prelude.{◌≡◌, Bool, leb}
use Rattle.std.proofs.Math.Path.{refl, sym, ap, ap₂}
use Rattle.std.proofs.Common.{◌∙◌}
use Prim.Native.Nat.{ℕ, zero, suc, ◌+◌, ◌*◌}
use Rattle.std.proofs.Math.Bool.{true, false}
use Rattle.std.proofs.Math.Option.{Option, none, some}
use mathlib.Core.List.{List, [], ◌∷◌, map, map-append}
use Rattle.std.proofs.Math.ListN.{take, length-map}
use Rattle.model.specs.State.{Sent, Run, OnTheLine, Uart, line_of}
use Rattle.theorems.specs.TwoRuns.Renamed.{map_sent, map_on_the_line, map_receiving, map_uart}
use Rattle.model.specs.Setters.{with_line_of}
use Rattle.model.specs.Events.{Event, departure, timeout, landing, nothing, goes_on, one_pass, lost, total, passes_in, overflows_in}
use Rattle.model.specs.Line.{frame}
use Rattle.model.specs.Settle.{gone, leave, depart, Pass, received, nothing_due, timed_out, landed, in_frame, begun, before_start, idle}
use Rattle.model.specs.Settle.{line_free, pass_on, pass, Settled, found, on_the_line, passes_from, pending, departures, passes}
use Rattle.model.specs.Settle.{levels, leveled, settings_of, settle_to, settle}
use Rattle.model.specs.Arm.{nth_gone, last_gone, below_threshold_at, next_start, landing_of, next_landing, instants, arm}
use Rattle.model.specs.declared.Fate.{Fate}
use Rattle.model.specs.declared.Fate.TheVariants.{Stored, Overflowed, Cleared, ClockOff, Unheard}
use Rattle.model.specs.declared.Settings.{Settings}
use Rattle.model.proofs.Laws.Choose.{choose-nat}
use Rattle.model.proofs.Laws.Lists.{map-take, map-drop}

-- events with other bytes
unfoldable pub map_event : {H H' W W' : Type 0} → (H → H') → (W → W') → Event H W → Event H' W'
map_event f g (departure at b) = departure at (g b)
map_event f g (timeout at) = timeout at
map_event f g (landing at b k) = landing at (f b) k
map_event f g (nothing at) = nothing at

unfoldable pub map_pass : {H H' W W' : Type 0} → (H → H') → (W → W') → Pass H W → Pass H' W'
map_pass f g p = record { event = map_event f g p.event; state = map_uart f g p.state }

unfoldable pub map_settled : {H H' W W' : Type 0} → (H → H') → (W → W') → Settled H W → Settled H' W'
map_settled f g t = record { state = map_uart f g t.state; events = map (map_event f g) t.events }

module _ {W W' : Type 0} (g : W → W') where
  gone-nat : (date : ℕ) (ss : List (Sent W)) → gone date (map (map_sent g) ss) ≡ gone date ss
  unfolding gone
  gone-nat date [] = refl
  gone-nat date (s ∷ ss) = ap (λ n. elim (leb s.gone_at date) as (λ b. ℕ) [ true ↦ suc n | false ↦ zero ]) (gone-nat date ss)

  pub bytes-nat : (ss : List (Sent W)) → map (λ s. s.byte) (map (map_sent g) ss) ≡ map g (map (λ s. s.byte) ss)
  bytes-nat [] = refl
  bytes-nat (s ∷ ss) = ap (λ r. g s.byte ∷ r) (bytes-nat ss)

  nth_gone-nat : (n : ℕ) (ss : List (Sent W)) → nth_gone n (map (map_sent g) ss) ≡ nth_gone n ss
  unfolding nth_gone
  nth_gone-nat n [] = refl
  nth_gone-nat zero (s ∷ ss) = refl
  nth_gone-nat (suc n) (s ∷ ss) = nth_gone-nat n ss

  pub last_gone-nat : (ss : List (Sent W)) → last_gone (map (map_sent g) ss) ≡ last_gone ss
  unfolding last_gone
  last_gone-nat ss = rw (length-map ss (map_sent g)) (nth_gone-nat _ ss)

module _ {H H' : Type 0} (f : H → H') where
  received-nat : (k : Fate) (b : H) (held : List H) → received k (f b) (map f held) ≡ map f (received k b held)
  unfolding received
  received-nat Stored b held = sym (map-append f held (b ∷ []))
  received-nat Overflowed b held = refl
  received-nat Cleared b held = refl
  received-nat ClockOff b held = refl
  received-nat Unheard b held = refl

  on_the_line-nat : (l : Option (OnTheLine H)) → on_the_line (map_receiving f l) ≡ on_the_line l
  unfolding on_the_line map_receiving
  on_the_line-nat none = refl
  on_the_line-nat (some l) = refl

  next_start-nat : (free : ℕ) (rs : List Run) (bs : List H) → next_start free rs (map f bs) ≡ next_start free rs bs
  unfolding next_start
  next_start-nat free [] bs = refl
  next_start-nat free (r ∷ rs) [] = refl
  next_start-nat free (r ∷ rs) (b ∷ bs) = refl

module _ {H H' W W' : Type 0} (f : H → H') (g : W → W') where
  -- ---- departures

  leave-nat : (n : ℕ) (u : Uart H W) → leave n (map_uart f g u) ≡ map_uart f g (leave n u)
  unfolding leave
  leave-nat n u = simp (map-append g, ← map-take (map_sent g), map-drop (map_sent g), bytes-nat g)

  depart-nat : (date : ℕ) (u : Uart H W) → depart date (map_uart f g u) ≡ map_uart f g (depart date u)
  unfolding depart
  depart-nat date u = rw (gone-nat g date u.in_flight, length-map u.in_flight (map_sent g)) (ap (with_line_of _) (leave-nat _ u))

  -- ---- one pass

  module _ (s : Settings) where
    nothing_due-nat : (date : ℕ) (u : Uart H W) → nothing_due date (map_uart f g u) ≡ map_pass f g (nothing_due date u)
    unfolding nothing_due map_pass map_event
    nothing_due-nat date u = refl

    timed_out-nat : (u : Uart H W) → timed_out s (map_uart f g u) ≡ map_pass f g (timed_out s u)
    unfolding timed_out map_pass map_event
    timed_out-nat u = rw (length-map u.rx f)

    landed-nat : (k : Fate) (l : OnTheLine H) (u : Uart H W) → landed s k (map_on_the_line f l) (map_uart f g u)
        ≡ map_pass f g (landed s k l u)
    unfolding landed map_pass map_event map_receiving
    landed-nat k l u = rw (received-nat f k l.byte u.rx)

    in_frame-nat : (date : ℕ) (l : OnTheLine H) (u : Uart H W)
        → in_frame s date (map_on_the_line f l) (map_uart f g u) ≡ map_pass f g (in_frame s date l u)
    unfolding in_frame
    in_frame-nat date l u =
        rw (length-map u.rx f) (choose-nat (map_pass f g) _ (timed_out-nat u)
        (choose-nat (map_pass f g) _ (nothing_due-nat date u) (landed-nat _ l u)))

    begun-nat : (at : ℕ) (b : H) (bs : List H) (u : Uart H W)
        → begun s at (f b) (map f bs) (map_uart f g u) ≡ map_uart f g (begun s at b bs u)
    unfolding begun map_receiving
    begun-nat at b bs u = refl

    before_start-nat : (date at : ℕ) (b : H) (bs : List H) (u : Uart H W)
        → before_start s date at (f b) (map f bs) (map_uart f g u) ≡ map_pass f g (before_start s date at b bs u)
    unfolding before_start
    before_start-nat date at b bs u =
        choose-nat (map_pass f g) _ (timed_out-nat u) (choose-nat (map_pass f g) _ (nothing_due-nat date u)
        (ap (in_frame s date _) (begun-nat at b bs u) ∙ in_frame-nat date (record { byte = b; frame = frame s }) (begun s at b bs u)))

    idle-nat : (date : ℕ) (u : Uart H W) → idle s date (map_uart f g u) ≡ map_pass f g (idle s date u)
    unfolding idle
    idle-nat date u = choose-nat (map_pass f g) _ (timed_out-nat u) (nothing_due-nat date u)

    line_free-nat : (date : ℕ) (rs : List Run) (bs : List H) (u : Uart H W)
        → line_free s date rs (map f bs) (map_uart f g u) ≡ map_pass f g (line_free s date rs bs u)
    unfolding line_free
    line_free-nat date [] bs u = idle-nat date u
    line_free-nat date (r ∷ rs) [] u = idle-nat date u
    line_free-nat date (r ∷ rs) (b ∷ bs) u = before_start-nat date _ b bs u

    pass_on-nat : (date : ℕ) (l : Option (OnTheLine H)) (u : Uart H W)
        → pass_on s date (map_receiving f l) (map_uart f g u) ≡ map_pass f g (pass_on s date l u)
    unfolding pass_on map_receiving
    pass_on-nat date none u = line_free-nat date u.host_runs u.host u
    pass_on-nat date (some l) u = in_frame-nat date l u

    pass-nat : (date : ℕ) (u : Uart H W) → pass s date (map_uart f g u) ≡ map_pass f g (pass s date u)
    unfolding pass
    pass-nat date u = pass_on-nat date u.receiving u

    -- ---- pass by pass

    goes-nat : (e : Event H W) → goes_on (map_event f g e) ≡ goes_on e
    unfolding map_event goes_on
    goes-nat (departure at b) = refl
    goes-nat (timeout at) = refl
    goes-nat (landing at b k) = refl
    goes-nat (nothing at) = refl

    passes_from-nat : (date k : ℕ) (more : Bool) (u : Uart H W)
        → passes_from s date k more (map_uart f g u) ≡ map_settled f g (passes_from s date k more u)
    unfolding passes_from map_settled map_pass
    passes_from-nat date zero false u = refl
    passes_from-nat date zero true u = refl
    passes_from-nat date (suc k) false u = refl
    passes_from-nat date (suc k) true u =
        let p = pass s date u in
        ap (λ q. found (q.event ∷ []) (passes_from s date k (goes_on q.event) q.state)) (pass-nat date u)
        ∙ ap (λ m. found (map_event f g p.event ∷ []) (passes_from s date k m (map_uart f g p.state))) (goes-nat p.event)
        ∙ ap (found (map_event f g p.event ∷ [])) (passes_from-nat date k (goes_on p.event) p.state)

  pub pending-nat : (u : Uart H W) → pending (map_uart f g u) ≡ pending u
  unfolding pending
  pending-nat u = ap₂ ◌+◌ (length-map u.host f) (on_the_line-nat f u.receiving)

  passes-nat : (s : Settings) (date : ℕ) (u : Uart H W) → passes s date (map_uart f g u) ≡ map_settled f g (passes s date u)
  unfolding passes
  passes-nat s date u = ap (λ n. passes_from s date (2 * n + 2) true (map_uart f g u)) (pending-nat u) ∙ passes_from-nat s date _ true u

  -- ---- levels and the interrupt

  pub levels-nat : (u : Uart H W) → levels (map_uart f g u) ≡ map_uart f g (levels u)
  unfolding levels
  levels-nat u = rw (length-map u.rx f, length-map u.in_flight (map_sent g))

  leveled-nat : (t : Settled H W) → leveled (map_settled f g t) ≡ map_settled f g (leveled t)
  unfolding leveled map_settled
  leveled-nat t = ap (λ v. record { state = v; events = map (map_event f g) t.events }) (levels-nat t.state)

  left-nat : (ss : List (Sent W)) → map (λ s. departure s.gone_at s.byte) (map (map_sent g) ss)
      ≡ map (map_event f g) (map (λ s. departure s.gone_at s.byte) ss)
  unfolding map_event
  left-nat [] = refl
  left-nat (s ∷ ss) = ap (λ r. departure s.gone_at (g s.byte) ∷ r) (left-nat ss)

  departures-nat : (date : ℕ) (u : Uart H W) → departures date (map_uart f g u) ≡ map (map_event f g) (departures date u)
  unfolding departures
  departures-nat date u =
      let ss : List (Sent W) = take (gone date u.in_flight) u.in_flight in
      rw (gone-nat g date u.in_flight, ← map-take (map_sent g)) (left-nat ss)

  pub found-nat : (es : List (Event H W)) (t : Settled H W) → found (map (map_event f g) es) (map_settled f g t)
      ≡ map_settled f g (found es t)
  unfolding map_settled
  found-nat es t = ap (λ l. record { state = map_uart f g t.state; events = l }) (sym (map-append (map_event f g) es t.events))

  -- ---- what is counted of events

  total-nat : (n : Event H W → ℕ) (n' : Event H' W' → ℕ) → ((e : Event H W) → n' (map_event f g e) ≡ n e) → (es : List (Event H W))
      → total n' (map (map_event f g) es) ≡ total n es
  unfolding total
  total-nat n n' h [] = refl
  total-nat n n' h (e ∷ es) = ap₂ ◌+◌ (h e) (total-nat n n' h es)

  pass-count-nat : (e : Event H W) → one_pass (map_event f g e) ≡ one_pass e
  unfolding map_event one_pass
  pass-count-nat (departure at b) = refl
  pass-count-nat (timeout at) = refl
  pass-count-nat (landing at b k) = refl
  pass-count-nat (nothing at) = refl

  lost-nat : (e : Event H W) → lost (map_event f g e) ≡ lost e
  unfolding map_event lost
  lost-nat (departure at b) = refl
  lost-nat (timeout at) = refl
  lost-nat (landing at b Stored) = refl
  lost-nat (landing at b Overflowed) = refl
  lost-nat (landing at b Cleared) = refl
  lost-nat (landing at b ClockOff) = refl
  lost-nat (landing at b Unheard) = refl
  lost-nat (nothing at) = refl

  pub passes-in-nat : (es : List (Event H W)) → passes_in (map (map_event f g) es) ≡ passes_in es
  unfolding passes_in
  passes-in-nat es = total-nat one_pass one_pass pass-count-nat es

  pub overflows-in-nat : (es : List (Event H W)) → overflows_in (map (map_event f g) es) ≡ overflows_in es
  unfolding overflows_in
  overflows-in-nat es = total-nat lost lost lost-nat es

  settle_to-nat : (date : ℕ) (u : Uart H W) → settle_to date (map_uart f g u) ≡ map_settled f g (settle_to date u)
  unfolding settle_to settings_of
  settle_to-nat date u =
      ap₂ found (departures-nat date u)
      (ap leveled (ap (passes _ date) (depart-nat date u) ∙ passes-nat _ date (depart date u)) ∙ leveled-nat _)
      ∙ found-nat (departures date u) _

  pub settle-nat : (now : ℕ) (u : Uart H W) → settle now (map_uart f g u) ≡ map_settled f g (settle now u)
  unfolding settle
  settle-nat now u = settle_to-nat _ u

  -- ---- arming

  landing_of-nat : (time : ℕ) (l : Option (OnTheLine H)) (u : Uart H W)
      → landing_of time (map_receiving f l) (map_uart f g u) ≡ landing_of time l u
  unfolding landing_of map_receiving
  landing_of-nat time none u = rw (next_start-nat f (line_of u).line_free_at u.host_runs u.host)
  landing_of-nat time (some l) u = refl

  instants-nat : (u : Uart H W) → instants (map_uart f g u) ≡ instants u
  unfolding instants next_landing settings_of below_threshold_at
  instants-nat u =
      rw (landing_of-nat (settings_of u).byte_time u.receiving u, last_gone-nat g u.in_flight, length-map u.in_flight (map_sent g))
      (rw (nth_gone-nat g 0 u.in_flight, nth_gone-nat g _ u.in_flight))

  pub arm-nat : (u : Uart H W) → arm (map_uart f g u) ≡ map_uart f g (arm u)
  unfolding arm
  arm-nat u = rw (instants-nat u)
