-- Demand 1 of a settling: within 2 × pending + 2 passes it leaves nothing due, spelled out in dates. Assumes nothing but,
-- for the bytes in flight, that their dates never fall.
use Rattle.std.specs.Prelude.{◌≡◌, refl, ℕ, zero, suc, ◌+◌, ◌*◌, ◌^◌, ◌≤◌, ◌<◌, min, Bool, List, [], ◌∷◌, ◌++◌, map, leb, length, take}
use Rattle.std.specs.Prelude.{Some, None}
use Rattle.std.specs.Prelude.{drop}
use Rattle.std.proofs.Math.Path.{sym, ap, ap₂}
use Rattle.std.proofs.Common.{◌∙◌, append_assoc, leb-true, leb-false}
use native.Mathlib.Omega.{arith}
use Rattle.std.proofs.Math.Bool.{true, false}
use Rattle.std.proofs.Math.Option.{none, some}
use Rattle.dates.specs.Dates.{later}
use Rattle.model.specs.Numbers.{earliest, instant_of}
use Rattle.model.specs.State.{Sent, Run, OnTheLine, Uart, line_of}
use Rattle.model.specs.Events.{Event, departure, nothing, passes_in, overflows_in}
use Rattle.model.specs.Timing.{settings}
use Rattle.model.specs.Line.{raise_if, timeout_at}
use Rattle.model.specs.Settle.{gone, leave, depart, pending, departures, passes, assert_levels, drive, settling_date}
use Rattle.model.specs.Settle.{levels}
use Rattle.model.specs.Settle.{leveled, settings_of, settle_to, settle}
use Rattle.model.specs.Limits.{All, nil, cons, Chain, empty, single, link, flight_dates}
use Rattle.model.proofs.Ends.Passes.{apart, After, LineQuiet, Kept}
use Rattle.model.proofs.Laws.Events.{departures-pass, departures-lose}
use Rattle.model.proofs.Ends.Through.{Through, through, through_passes, passes-bound, through-kept, through-quiet, through-last}
use Rattle.model.specs.declared.Control.{Control}

-- ---- the settling's date

-- now, in subcycles
pub settles-now : (now : ℕ) (c : Control) → now < 2 ^ 59 → c.powered_down_at ≡ None → settling_date now c ≡ now * 32
unfolding settling_date earliest instant_of
settles-now now c lt e = rw e (omega arith)

-- after power-down no later than that date
pub settles-down : (now down : ℕ) (c : Control) → now < 2 ^ 59 → c.powered_down_at ≡ Some down → settling_date now c ≡ min (now * 32) down
unfolding settling_date earliest instant_of
settles-down now down c lt e = rw e (omega arith)

-- ---- departures

all_after : (date : ℕ) {n : ℕ} {ns : List ℕ} → Chain ◌≤◌ (n ∷ ns) → date < n → All (λ t. date < t) (n ∷ ns)
all_after date single lt = cons lt nil
all_after date (link le c) lt = cons lt (all_after date c (omega arith))

chain-tail : {R : ℕ → ℕ → Type 0} {n : ℕ} {ns : List ℕ} → Chain R (n ∷ ns) → Chain R ns
chain-tail single = empty
chain-tail (link r c) = c

chain-drop : {W : Type 0} (n : ℕ) (l : List (Sent W)) → Chain ◌≤◌ (flight_dates l) → Chain ◌≤◌ (flight_dates (drop n l))
chain-drop zero l c = c
chain-drop (suc n) [] c = c
chain-drop (suc n) (s ∷ ss) c = chain-drop n ss (chain-tail c)

-- one byte more in flight: whether it has gone by the date decides whether those after it may have
module _ {W : Type 0} (date : ℕ) (s : Sent W) (ss : List (Sent W)) (n : ℕ) where
  split : Bool → ℕ
  split has-gone = elim has-gone [ true ↦ suc n | false ↦ zero ]

  stay-one : (b : Bool) → leb s.gone_at date ≡ b → Chain ◌≤◌ (flight_dates (s ∷ ss)) → All (λ t. date < t) (flight_dates (drop n ss))
      → All (λ t. date < t) (flight_dates (drop (split b) (s ∷ ss)))
  unfolding split
  stay-one true e c ih = ih
  stay-one false e c ih = all_after date c (leb-false s.gone_at date e)

  leave-one : (b : Bool) → leb s.gone_at date ≡ b → All (λ t. t ≤ date) (flight_dates (take n ss))
      → All (λ t. t ≤ date) (flight_dates (take (split b) (s ∷ ss)))
  unfolding split
  leave-one true e ih = cons (leb-true s.gone_at date e) ih
  leave-one false e ih = nil

-- what has not gone by a date goes after it, as dates never fall
stay : {W : Type 0} (date : ℕ) (l : List (Sent W)) → Chain ◌≤◌ (flight_dates l) → All (λ t. date < t) (flight_dates (drop (gone date l) l))
unfolding gone split
stay date [] c = nil
stay date (s ∷ ss) c = stay-one date s ss (gone date ss) (leb s.gone_at date) refl c (stay date ss (chain-tail c))

-- what has gone was due
leaves : {W : Type 0} (date : ℕ) (l : List (Sent W)) → All (λ t. t ≤ date) (flight_dates (take (gone date l) l))
unfolding gone split
leaves date [] = nil
leaves date (s ∷ ss) = leave-one date s ss (gone date ss) (leb s.gone_at date) refl (leaves date ss)

-- ---- one settling

-- nothing dated at or before `date` is left to do: no departure, timeout, landing or start
pub record NothingLeft {H W : Type 0} (date : ℕ) (u : Uart H W) : Type 0 where
  pub departures : All (λ t. date < t) (flight_dates u.in_flight)
  pub timeout : After date (timeout_at (settings_of u) (line_of u))
  pub landing : (l : OnTheLine H) → u.receiving ≡ some l → date < (line_of u).line_free_at
  pub start : u.receiving ≡ none → (r : Run) (rs : List Run) (b : H) (bs : List H) → u.host_runs ≡ r ∷ rs → u.host ≡ b ∷ bs
      → date < later r.date (line_of u).line_free_at

-- some of the first bytes in flight left, all of them due
pub record Departs {H W : Type 0} (date : ℕ) (u v : Uart H W) : Type 0 where
  pub count : ℕ
  pub stay : v.in_flight ≡ drop count u.in_flight
  pub tx : v.tx ≡ u.tx ++ map (λ s. s.byte) (take count u.in_flight)
  pub due : All (λ t. t ≤ date) (flight_dates (take count u.in_flight))

leaves-something : {H W : Type 0} (at : ℕ) (b : W) (d : ℕ) → ¬ (◌≡◌ {A = Event H W} (departure at b) (nothing d))
leaves-something at b d q = apart (cc)

departs-first : {H W : Type 0} (ss : List (Sent W)) (fs : List (Event H W)) → All (λ e. (d : ℕ) → ¬ (e ≡ nothing d)) fs
    → All (λ e. (d : ℕ) → ¬ (e ≡ nothing d)) (map (λ s. departure s.gone_at s.byte) ss ++ fs)
departs-first [] fs a = a
departs-first (s ∷ ss) fs a = cons (leaves-something s.gone_at s.byte) (departs-first ss fs a)

-- what a settling finds: the departures, and then pass by pass all that is due on the line, and nothing
pub record Finds {H W : Type 0} (now : ℕ) (u : Uart H W) : Type 0 where
  pub finds : List (Event H W)
  pub last : Uart H W
  pub through : Through (settings_of u) (settling_date now u.control) (depart (settling_date now u.control) u) finds last
  pub state : (settle now u).state ≡ levels last
  pub events : (settle now u).events ≡ departures (settling_date now u.control) u ++ finds
  pub passes : passes_in (settle now u).events ≡ length finds
  pub overflows : overflows_in (settle now u).events ≡ overflows_in finds

module _ {H W : Type 0} (now : ℕ) (u : Uart H W) where
  abbrev until : ℕ
  until = settling_date now u.control

  -- passes and overflows count what the passes found: timeouts and landings, and the bytes lost among them
  pub settle-finds : Finds now u
  unfolding settle settle_to leveled
  settle-finds =
      let t = passes (settings_of u) until (depart until u) in
      record {
        finds = t.events;
        last = t.state;
        through = through (settings_of u) until (depart until u);
        state = refl;
        events = refl;
        passes = departures-pass until u t.events ∙ through_passes (settings_of u) until (through (settings_of u) until (depart until u));
        overflows = departures-lose until u t.events;
      }

  -- a settling ends with a pass that finds nothing due, and no other pass finds nothing
  pub settle-last : (es : List (Event H W)) × (at : ℕ) × All (λ e. (d : ℕ) → ¬ (e ≡ nothing d)) es
      × ((settle now u).events ≡ es ++ (nothing at ∷ []))
  unfolding departures
  settle-last =
      let (fs, at, a, is) = through-last _ _ settle-finds.through in
      let before = departures until u in (
        before ++ fs,
        at,
        departs-first (take (gone until u.in_flight) u.in_flight) fs a,
        settle-finds.events ∙ ap (λ l. before ++ l) is ∙ sym (append_assoc before fs (nothing at ∷ [])),
      )

  -- demand 1: two passes for each pending byte, and two more
  pub settle-passes : passes_in (settle now u).events ≤ 2 * pending u + 2
  unfolding settle settle_to leveled depart leave pending
  settle-passes =
      omega (
        arith,
        departures-pass until u (passes (settings_of u) until (depart until u)).events,
        passes-bound (settings_of u) until (depart until u),
      )

  kept : Kept (depart until u) settle-finds.last
  kept = through-kept _ _ settle-finds.through

  -- settling changes neither the stored words nor the period
  pub settle-words : (settle now u).state.control.words ≡ u.control.words
  unfolding levels drive assert_levels depart leave
  settle-words = ap (λ v. v.control.words) settle-finds.state ∙ ap (λ c. c.words) kept.control

  pub settle-period : (settle now u).state.control.period ≡ u.control.period
  unfolding levels drive assert_levels depart leave
  settle-period = ap (λ v. v.control.period) settle-finds.state ∙ ap (λ c. c.period) kept.control

  -- so the receiver is set as it was
  pub settle-settings : settings_of (settle now u).state ≡ settings_of u
  unfolding settings_of
  settle-settings = ap₂ settings settle-words settle-period

  -- only what is due departs
  pub settle-departs : Departs (settling_date now u.control) u (settle now u).state
  unfolding levels depart leave
  settle-departs = record {
    count = gone until u.in_flight;
    stay = ap (λ v. v.in_flight) settle-finds.state ∙ kept.in_flight;
    tx = ap (λ v. v.tx) settle-finds.state ∙ kept.tx;
    due = leaves until u.in_flight;
  }

  -- dates in flight never fall after a settling if they did not before
  pub settle-order : Chain ◌≤◌ (flight_dates u.in_flight) → Chain ◌≤◌ (flight_dates (settle now u).state.in_flight)
  settle-order c = rw settle-departs.stay (chain-drop settle-departs.count u.in_flight c)

  -- demand 1: nothing due is left undone
  pub settle-nothing-left : Chain ◌≤◌ (flight_dates u.in_flight) → NothingLeft (settling_date now u.control) (settle now u).state
  unfolding settle-departs levels drive assert_levels raise_if timeout_at
  settle-nothing-left c =
      let q : LineQuiet (settings_of u) until settle-finds.last = through-quiet _ _ settle-finds.through in
      record {
        departures = rw settle-departs.stay (stay until u.in_flight c);
        timeout = rw (settle-settings, settle-finds.state) q.timeout;
        landing = rw settle-finds.state q.landing;
        start = rw settle-finds.state q.start;
      }
