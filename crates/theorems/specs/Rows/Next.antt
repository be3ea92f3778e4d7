-- The next write at the same cycle, on a still state: it settles nothing, and the byte joins those in flight or is dropped. Of levels and
-- wake only the wake can change, and the state is still again. Assumes nothing.
use Rattle.std.specs.Prelude.{◌≡◌, ℕ, ◌≤◌, ◌<◌, Bool, false, length, Some, Ok, Err, true}
use Rattle.std.proofs.Math.Path.{refl, ap, ap₂, subst}
use Rattle.std.proofs.Common.{sym, ◌∙◌, arith, length-append, le-ltb, lt-ltb}
use Rattle.std.proofs.Math.Option.{Option, none, some}
use mathlib.Core.List.{List, [], ◌∷◌, ◌++◌, map-append}
use Rattle.std.proofs.Math.ListN.{drop}
use Rattle.std.proofs.lemmas.Bool.{lt-leb}
use Rattle.model.specs.Numbers.{only_if, earliest, in_cycles}
use Rattle.model.specs.State.{Sent, OnTheLine, Uart}
use Rattle.model.specs.Setters.{with_wake, with_control, with_in_flight}
use Rattle.model.specs.Events.{nothing, total, one_pass, lost, passes_in, overflows_in}
use Rattle.model.specs.Timing.{unmodelled_source}
use Rattle.model.specs.Line.{fifo_bytes, raise_if}
use Rattle.model.specs.Settle.{settling_date, empty_threshold, settings_of, assert_levels, drive, int_status, levels}
use Rattle.model.specs.Arm.{nth_gone, last_gone, below_threshold_at, landing_of, next_landing, instants, arm_all, arm}
use Rattle.model.specs.Replies.{report}
use Rattle.model.specs.Registers.{source_notes, Access, gone_at, sent, dropped, send_byte, concluded}
use Rattle.model.specs.Tests.{date_end, transmit_full, refuse_if, refuse_date}
use Rattle.model.specs.Calls.{Outcome, unless, after_settling, carried, outcome, send}
use Rattle.model.specs.Row.{fifo_write}
use Rattle.model.specs.Limits.{All, nil, cons, flight_dates, Fits}
use Rattle.model.proofs.Laws.Lists.{last_of, all_snoc}
use Rattle.model.proofs.Laws.Choose.{choose-true, choose-false}
use Rattle.model.proofs.Keeps.Access.{last_gone-last_of, sends-behind}
use Rattle.model.proofs.ShutsOut.Wakes.{cycle_of, InTimeFor}
use Rattle.theorems.specs.Rows.Still.{Still, still-settles}
use Rattle.theorems.specs.Rows.Levels.{more-flying, arm_all-again, arm_all-in-time, later-in-time, fourth-armed}
use Rattle.model.specs.Names.{Date, Write}
use Rattle.model.specs.declared.Refusal.TheVariants.{DatePastEnd, DateWentBack, TransmitFull}
use Rattle.model.specs.declared.Unsupported.TheVariants.{UartOverflow, UartClock}

-- ---- the byte joins

module _ {H W : Type 0} where
  abbrev pub joined : ℕ → W → Uart H W → List (Sent W)
  joined now b u = u.in_flight ++ (record { gone_at = gone_at now u; byte = b } ∷ [])

  -- the state with these in flight and this wake
  abbrev pub flying_and : List (Sent W) → Date → Uart H W → Uart H W
  flying_and l wake u = with_control (with_wake wake u.control) (with_in_flight l u)

  -- the wake is armed for the instant at which the transmit FIFO falls below its threshold, and for no other
  abbrev pub next_wake : ℕ → W → Uart H W → Date
  next_wake now b u = earliest u.control.wake (in_cycles (below_threshold_at (empty_threshold u.control.words.conf1) (joined now b u)))

  abbrev pub next : ℕ → W → Uart H W → Uart H W
  next now b u = flying_and (joined now b u) (next_wake now b u) u

  landing-alike : (l : List (Sent W)) (wake : Date) (u : Uart H W) → next_landing (flying_and l wake u) ≡ next_landing u
  unfolding next_landing landing_of settings_of
  landing-alike l wake u = by-line u.receiving
    where
      by-line : (o : Option (OnTheLine H)) → landing_of (settings_of u).byte_time o (flying_and l wake u) ≡ landing_of
          (settings_of u).byte_time o u
      by-line none = refl
      by-line (some x) = refl

  pub arm-again : (x : Uart H W) → arm (arm x) ≡ arm x
  unfolding arm instants settings_of
  arm-again x =
      let w = arm_all (instants x) x.control.wake in
      ap (λ (d : Date). with_control (with_wake (arm_all (last_gone x.in_flight ∷ d ∷ drop 2 (instants x)) w) x.control) x)
      (landing-alike x.in_flight w x)
      ∙ ap (λ v. with_control (with_wake v x.control) x) (arm_all-again (instants x) x.control.wake)

-- ---- the last in flight

last_of_snoc : {W : Type 0} (l : List (Sent W)) (s : Sent W) → last_of (flight_dates (l ++ (s ∷ []))) ≡ s.gone_at
unfolding last_of
last_of_snoc [] s = refl
last_of_snoc (r ∷ []) s = refl
last_of_snoc (r ∷ q ∷ l) s = last_of_snoc (q ∷ l) s

last_gone-snoc : {W : Type 0} (l : List (Sent W)) (s : Sent W) → last_gone (l ++ (s ∷ [])) ≡ Some s.gone_at
last_gone-snoc [] s = last_gone-last_of s [] ∙ ap Some (last_of_snoc [] s)
last_gone-snoc (r ∷ l) s = last_gone-last_of r (l ++ (s ∷ [])) ∙ ap Some (last_of_snoc (r ∷ l) s)

pub last_gone-joined : {H W : Type 0} (now : ℕ) (b : W) (u : Uart H W) → last_gone (joined now b u) ≡ Some (gone_at now u)
last_gone-joined now b u = last_gone-snoc u.in_flight _

all-last_of : {P : ℕ → Type 0} (n : ℕ) (ns : List ℕ) → All P (n ∷ ns) → P (last_of (n ∷ ns))
unfolding last_of
all-last_of n [] (cons p a) = p
all-last_of n (m ∷ ns) (cons p a) = all-last_of m ns a

-- ---- the write

module _ {H W : Type 0} (now : ℕ) (b : W) (u : Uart H W) (in-time : now < date_end) (in_order : u.control.last ≤ now)
    (room : transmit_full (length u.tx) (length u.in_flight) ≡ false) where
  -- no test refuses it
  pub written-carried : fifo_write now u b ≡ carried (some now) (send now b u) u
  unfolding outcome unless send refuse_date refuse_if
  written-carried =
      ap₂ (λ (p q : Bool). unless (refuse_if p DatePastEnd (refuse_if q DateWentBack (send now b u).test)) Err
      (carried (some now) (send now b u)) u)
      (lt-leb date_end now in-time) (le-ltb now u.control.last in_order)
      ∙ ap (λ (t : Bool). unless (refuse_if t TransmitFull none) Err (carried (some now) (send now b u)) u) room

module _ {H W : Type 0} (now : ℕ) (b : W) (u : Uart H W) (still : Still now u) (in-time : now < date_end)
    (room : transmit_full (length u.tx) (length u.in_flight) ≡ false) where
  -- one pass and no more
  abbrev concluding : Access Write H W → Outcome Write H W
  concluding a = record {
    reply = a.reply;
    report = report 1 0 a.notes a.state;
    state = a.state;
    events = nothing (settling_date now u.control) ∷ [];
  }

  written-still : fifo_write now u b ≡ concluding (concluded (send_byte now b u))
  unfolding carried after_settling send passes_in overflows_in total one_pass lost
  written-still =
      written-carried now b u in-time (omega (arith, still.last)) room
      ∙ ap (λ t. after_settling t (λ s. concluded (send_byte now b s))) (still-settles now u still)

  pub written-dropped : fifo_bytes < length u.in_flight
      → fifo_write now u b ≡ record {
        reply = Ok true;
        report = report 1 0 (UartOverflow ∷ []) u;
        state = u;
        events = nothing (settling_date now u.control) ∷ [];
      }
  unfolding concluded dropped send_byte
  written-dropped h =
      written-still ∙ ap (λ a. concluding (concluded a)) (choose-true (dropped u) (sent now b u) (lt-ltb fifo_bytes _ h))
      ∙ ap (λ v. concluding (record { reply = Ok true; notes = UartOverflow ∷ []; state = v }))
      (ap arm still.leveled ∙ still.armed)

  module _ (s : Sent W) (ss : List (Sent W)) (flying : u.in_flight ≡ s ∷ ss) (fit : All Fits (flight_dates u.in_flight)) where
    behind : last_of (flight_dates (s ∷ ss)) ≤ gone_at now u
    unfolding gone_at
    behind =
        subst (λ l. last_of (flight_dates l) ≤ gone_at now u) flying
        (sends-behind _ _ u.in_flight fit (rw flying (omega arith)))

    longer : length u.in_flight ≤ length (joined now b u)
    longer = rw length-append (omega arith)

    arms : arm_all (instants (with_in_flight (joined now b u) u)) u.control.wake ≡ next_wake now b u
    unfolding instants settings_of arm nth_gone
    arms = by-instants (arm_all-in-time (instants u) u.control.wake (ap (λ v. v.control.wake) still.armed))
      where
        w : Date
        w = u.control.wake

        by-instants : All (λ d. InTimeFor w (cycle_of d)) (instants u)
            → arm_all (instants (with_in_flight (joined now b u) u)) w ≡ next_wake now b u
        by-instants (cons p (cons q (cons r (cons o (cons e nil))))) =
            fourth-armed w _ _ _ _ _
            (subst (λ d. InTimeFor w (cycle_of d)) (sym (last_gone-joined now b u))
            (later-in-time w _ _ behind (subst (λ d. InTimeFor w (cycle_of d)) (ap last_gone flying ∙ last_gone-last_of s ss) p)))
            (subst (λ d. InTimeFor w (cycle_of d)) (sym (landing-alike (joined now b u) w u)) q) r
            (subst (λ l. InTimeFor w (cycle_of (only_if u.control.watched
            (nth_gone 0 (l ++ (record { gone_at = gone_at now u; byte = b } ∷ [])))))) (sym flying)
            (subst (λ l. InTimeFor w (cycle_of (only_if u.control.watched (nth_gone 0 l)))) flying e))

    next_armed : arm (with_in_flight (joined now b u) u) ≡ next now b u
    unfolding arm
    next_armed = ap (λ w. with_control (with_wake w u.control) (with_in_flight (joined now b u) u)) arms

    pub written_next : length u.in_flight ≤ fifo_bytes
        → fifo_write now u b ≡ record {
          reply = Ok true;
          report = report 1 0 (source_notes UartClock (unmodelled_source u.control.words.clk_conf)) (next now b u);
          state = next now b u;
          events = nothing (settling_date now u.control) ∷ [];
        }
    unfolding concluded sent send_byte
    written_next h =
        written-still ∙ ap (λ a. concluding (concluded a)) (choose-false (dropped u) (sent now b u) (le-ltb fifo_bytes _ h))
        ∙ ap (λ v. concluding (record {
          reply = Ok true;
          notes = source_notes UartClock (unmodelled_source u.control.words.clk_conf);
          state = v;
        }))
        (ap arm (more-flying u (joined now b u) longer still.leveled) ∙ next_armed)

    -- ---- still again

    pub next-still : Still now (next now b u)
    unfolding levels assert_levels drive int_status raise_if settling_date settings_of
    next-still = record {
      last = still.last;
      left = record {
        departures =
            rw map-append (all_snoc _ (flight_dates u.in_flight)
            (by_last (subst (λ l. All (λ t. settling_date now u.control < t) (flight_dates l)) flying still.left.departures))
            still.left.departures);
        timeout = still.left.timeout;
        landing = still.left.landing;
        start = still.left.start;
      };
      leveled = ap (λ v. with_control (with_wake (next now b u).control.wake v.control) v)
          (more-flying u (joined now b u) longer still.leveled);
      armed = ap arm (sym next_armed) ∙ arm-again (with_in_flight (joined now b u) u) ∙ next_armed;
    }
      where
        by_last : All (λ t. settling_date now u.control < t) (flight_dates (s ∷ ss)) → settling_date now u.control < gone_at now u
        by_last a = omega (arith, behind, all-last_of s.gone_at (flight_dates ss) a)
