-- A settling at an earlier date, and then one at a later, is the settling at the later date:
-- 1. the same bytes leave and land, each with its date and its fate, and overflows add up: from every state;
-- 2. the queues, what is in flight and sent, the byte on the line and when the line is free are the same: from every state;
-- 3. the whole state is the same, within the limits and outside `Exception`;
-- 4. in `Exception` it can differ.
-- Each to the subcycle (`settle_to`) and at cycles, after power-down no later than that (`settle`). Assumes nothing.
use Rattle.std.specs.Prelude.{◌≡◌, ℕ, ◌+◌, ◌≤◌, ◌++◌, Some, None}
use Rattle.std.proofs.Math.Path.{sym, ap, ap₂, subst}
use Rattle.std.proofs.Common.{◌∙◌, arith}
use Rattle.dates.specs.Dates.{subcycles}
use Rattle.model.specs.Numbers.{earliest, instant_of}
use Rattle.model.specs.State.{Uart, line_of}
use Rattle.model.specs.Events.{landings_in, overflows_in}
use Rattle.model.specs.Line.{raise_if}
use Rattle.model.specs.Settle.{depart, departures, passes, assert_levels, drive, settling_date, levels, leveled}
use Rattle.model.specs.Settle.{settings_of, settle_to, settle}
use Rattle.model.specs.Limits.{Within}
use Rattle.model.proofs.Laws.Events.{landings-append, lost_in, overflows-append, overflows-land, departures-land}
use Rattle.model.proofs.Keeps.Kept.{settle-keeps}
use Rattle.theorems.specs.TwoSteps.Departures.{departures-twice}
use Rattle.theorems.specs.TwoSteps.Bare.{bare}
use Rattle.theorems.specs.TwoSteps.Moves.{passes-bare}
use Rattle.theorems.specs.TwoSteps.Exception.{Exception, passes-agree}
use Rattle.theorems.specs.TwoSteps.Together.{settled-state, first-events, second-departures, second-events}
use Rattle.theorems.specs.TwoSteps.Differs.{looked, looked-within, looked-exception, looked-differs}
use Rattle.model.specs.Names.{Date}

-- the queues, what is in flight and sent, the byte on the line with its frame, and when the line is free
abbrev SameQueues : {H W : Type 0} → Uart H W → Uart H W → Type 0
SameQueues v w =
    (v.rx ≡ w.rx) × (v.host ≡ w.host) × (v.host_runs ≡ w.host_runs) × (v.receiving ≡ w.receiving)
    × ((line_of v).line_free_at ≡ (line_of w).line_free_at) × (v.in_flight ≡ w.in_flight) × (v.tx ≡ w.tx)

-- levels move none of these
same-levels : {H W : Type 0} (u v : Uart H W) → bare u ≡ bare v → SameQueues (levels u) (levels v)
unfolding levels assert_levels drive raise_if
same-levels u v e = (
  ap (λ w. w.rx) e,
  ap (λ w. w.host) e,
  ap (λ w. w.host_runs) e,
  ap (λ w. w.receiving) e,
  ap (λ w. (line_of w).line_free_at) e,
  ap (λ w. w.in_flight) e,
  ap (λ w. w.tx) e,
)

-- ---- to the subcycle

module _ {H W : Type 0} (a b : ℕ) (u : Uart H W) (le : a ≤ b) where
  -- 1. landings: dates, bytes and fates, in order
  pub settle_to-landings : landings_in ((settle_to a u).events ++ (settle_to b (settle_to a u).state).events)
      ≡ landings_in (settle_to b u).events
  unfolding settle_to leveled
  settle_to-landings =
      landings-append (settle_to a u).events (settle_to b (settle_to a u).state).events
      ∙ ap₂ (λ x y. x ++ y)
      (ap landings_in (first-events a b le u) ∙ departures-land a u _)
      (ap landings_in (second-events a b le u) ∙ departures-land b (depart a u) _)
      ∙ (passes-bare (settings_of u) a b le (depart b u)).0
      ∙ sym (departures-land b u (passes (settings_of u) b (depart b u)).events)

  -- 1. departures: dates and bytes, in order
  pub settle_to-departures : departures a u ++ departures b (settle_to a u).state ≡ departures b u
  settle_to-departures = ap (λ es. departures a u ++ es) (second-departures a b le u) ∙ departures-twice a b le u

  -- 1. overflows add up
  pub settle_to-overflows : overflows_in (settle_to a u).events + overflows_in (settle_to b (settle_to a u).state).events
      ≡ overflows_in (settle_to b u).events
  settle_to-overflows =
      sym (overflows-append (settle_to a u).events (settle_to b (settle_to a u).state).events)
      ∙ overflows-land ((settle_to a u).events ++ (settle_to b (settle_to a u).state).events)
      ∙ ap (lost_in W) settle_to-landings ∙ sym (overflows-land (settle_to b u).events)

  -- 2. from every state, the exception too
  pub settle_to-queues : let v : Uart H W = (settle_to b (settle_to a u).state).state in let w : Uart H W = (settle_to b u).state in
      (v.rx ≡ w.rx) × (v.host ≡ w.host) × (v.host_runs ≡ w.host_runs) × (v.receiving ≡ w.receiving)
      × ((line_of v).line_free_at ≡ (line_of w).line_free_at) × (v.in_flight ≡ w.in_flight) × (v.tx ≡ w.tx)
  unfolding settle_to leveled
  settle_to-queues =
      subst (λ v. SameQueues v (settle_to b u).state) (sym (settled-state a b le u))
      (same-levels _ _ (passes-bare (settings_of u) a b le (depart b u)).1)

  -- 3. the whole state
  pub settle_to-unexcepted : Within u → ¬ Exception u → (settle_to b (settle_to a u).state).state ≡ (settle_to b u).state
  unfolding settle_to leveled
  settle_to-unexcepted w n = settled-state a b le u ∙ ap levels (passes-agree u w n a b le b)

-- ---- at cycles

-- a later cycle settles no earlier
no-later : (m n : ℕ) (d : Date) → m ≤ n → instant_of (earliest (Some (subcycles m)) d) ≤ instant_of (earliest (Some (subcycles n)) d)
unfolding earliest instant_of
no-later m n None le = omega arith
no-later m n (Some t) le = omega arith

module _ {H W : Type 0} (m n : ℕ) (u : Uart H W) (le : m ≤ n) where
  abbrev date_of : ℕ → ℕ
  date_of now = settling_date now u.control

  dates : date_of m ≤ date_of n
  unfolding settling_date
  dates = no-later m n u.control.powered_down_at le

  -- a settling does not move the date of power-down
  again : settle n (settle m u).state ≡ settle_to (date_of n) (settle_to (date_of m) u).state
  unfolding settle settling_date
  again = ap (λ d. settle_to (instant_of (earliest (Some (subcycles n)) d)) (settle m u).state) (settle-keeps m u).powered_down_at

  pub settle-landings : landings_in ((settle m u).events ++ (settle n (settle m u).state).events) ≡ landings_in (settle n u).events
  unfolding settle
  settle-landings = ap (λ t. landings_in ((settle m u).events ++ t.events)) again ∙ settle_to-landings (date_of m) (date_of n) u dates

  pub settle-departures : departures (settling_date m u.control) u
      ++ departures (settling_date n (settle m u).state.control) (settle m u).state
      ≡ departures (settling_date n u.control) u
  unfolding settle settling_date
  settle-departures =
      ap (λ d. departures (date_of m) u ++ departures (instant_of (earliest (Some (subcycles n)) d)) (settle m u).state)
      (settle-keeps m u).powered_down_at
      ∙ settle_to-departures (date_of m) (date_of n) u dates

  pub settle-overflows : overflows_in (settle m u).events + overflows_in (settle n (settle m u).state).events
      ≡ overflows_in (settle n u).events
  unfolding settle
  settle-overflows =
      ap (λ t. overflows_in (settle m u).events + overflows_in t.events) again ∙ settle_to-overflows (date_of m) (date_of n) u dates

  pub settle-queues : let v : Uart H W = (settle n (settle m u).state).state in let w : Uart H W = (settle n u).state in
      (v.rx ≡ w.rx) × (v.host ≡ w.host) × (v.host_runs ≡ w.host_runs) × (v.receiving ≡ w.receiving)
      × ((line_of v).line_free_at ≡ (line_of w).line_free_at) × (v.in_flight ≡ w.in_flight) × (v.tx ≡ w.tx)
  unfolding settle
  settle-queues =
      subst (λ t. SameQueues t.state (settle n u).state) (sym again) (settle_to-queues (date_of m) (date_of n) u dates)

  pub settle-unexcepted : Within u → ¬ Exception u → (settle n (settle m u).state).state ≡ (settle n u).state
  unfolding settle
  settle-unexcepted w x = ap (λ t. t.state) again ∙ settle_to-unexcepted (date_of m) (date_of n) u dates w x

-- 4. in some state within the limits, in the exception, a settling at cycle 28 changes the one at 40
pub excepted-differs : (u : Uart ℕ ℕ) × Within u × Exception u × (¬ ((settle 40 (settle 28 u).state).state ≡ (settle 40 u).state))
excepted-differs = (looked, looked-within, looked-exception, looked-differs)
