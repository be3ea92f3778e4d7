-- A write that is carried out leaves a still state, unless the last byte in flight is due at once. Assumes nothing.
use Rattle.std.specs.Prelude.{◌≡◌, refl, ℕ, ◌≤◌, ◌<◌, Bool, false, ltb, length, Some}
use Rattle.std.proofs.Common.{sym, ◌∙◌, le_refl}
use Rattle.std.proofs.Math.Path.{ap, subst}
use mathlib.Core.List.{List, map-append}
use Rattle.dates.specs.Dates.{subcycles}
use Rattle.model.specs.Numbers.{earliest, instant_of}
use Rattle.model.specs.State.{Sent, Uart}
use Rattle.model.specs.Setters.{with_wake, with_control, with_in_flight}
use Rattle.model.specs.Line.{fifo_bytes, raise_if, timeout_at}
use Rattle.model.specs.Settle.{assert_levels, drive, int_status, settling_date, levels, settings_of}
use Rattle.model.specs.Arm.{last_gone, arm}
use Rattle.model.specs.Registers.{Access, sent, dropped, send_byte, concluded}
use Rattle.model.specs.Calls.{dated}
use Rattle.model.specs.Plans.{settle_at}
use Rattle.model.proofs.Laws.Choose.{choose-ind}
use Rattle.model.proofs.Laws.Lists.{all_snoc}
use Rattle.model.specs.Limits.{Chain, flight_dates}
use Rattle.model.proofs.Keeps.Kept.{settle-keeps}
use Rattle.model.proofs.Ends.NothingDue.{NothingLeft, settle-nothing-left}
use Rattle.theorems.specs.TwoSteps.Levels.{levels-dressed, levels-again}
use Rattle.theorems.specs.Rows.Still.{Still}
use Rattle.theorems.specs.Rows.Next.{joined, last_gone-joined, arm-again}
use Rattle.model.specs.Names.{Date, Write}

-- the last byte in flight goes after a date
abbrev pub LastAfter : {W : Type 0} → ℕ → List (Sent W) → Type 0
LastAfter date l = (t : ℕ) → last_gone l ≡ Some t → date < t

module _ {H W : Type 0} where
  levels-twice : (u : Uart H W) → levels (levels u) ≡ levels u
  levels-twice u = ap levels (levels-dressed u) ∙ levels-again u u refl (le_refl _) (le_refl _)

  -- raised and armed, where nothing is due
  still-concluded : (now : ℕ) (u : Uart H W) → u.control.last ≡ now → NothingLeft (settling_date now u.control) u
      → Still now (arm (levels u))
  unfolding levels assert_levels drive int_status raise_if arm settling_date settings_of timeout_at
  still-concluded now u e n = record {
    last = e;
    left = record { departures = n.departures; timeout = n.timeout; landing = n.landing; start = n.start };
    leveled = ap (λ v. with_control (with_wake (arm (levels u)).control.wake v.control) v) (levels-twice u);
    armed = arm-again (levels u);
  }

  module _ (now : ℕ) (b : W) (u : Uart H W) (order : Chain ◌≤◌ (flight_dates u.in_flight)) where
    abbrev settled : Uart H W
    settled = (settle_at now u).state

    nothing_left : NothingLeft (settling_date now settled.control) settled
    unfolding settling_date dated
    nothing_left =
        subst (λ (d : Date). NothingLeft (instant_of (earliest (Some (subcycles now)) d)) settled)
        (sym (settle-keeps now (dated now u)).powered_down_at) (settle-nothing-left now (dated now u) order)

    last-now : settled.control.last ≡ now
    unfolding dated
    last-now = (settle-keeps now (dated now u)).last

    -- a byte that is dropped leaves all as it was; one that is sent may be due at once
    abbrev full : Bool
    full = ltb fifo_bytes (length settled.in_flight)

    Leaves : Access Write H W → Type 0
    Leaves a = (full ≡ false → LastAfter (settling_date now settled.control) a.state.in_flight) → Still now (concluded a).state

    pub send-still : (ltb fifo_bytes (length (settle_at now u).state.in_flight) ≡ false
        → LastAfter (settling_date now (settle_at now u).state.control) (send_byte now b (settle_at now u).state).state.in_flight)
        → Still now (concluded (send_byte now b (settle_at now u).state)).state
    unfolding Leaves send_byte sent dropped concluded settling_date settings_of
    send-still =
        choose-ind Leaves full (λ _ _. still-concluded now settled last-now nothing_left)
        (λ t after. still-concluded now (with_in_flight (joined now b settled) settled) last-now (record {
          departures =
              rw map-append (all_snoc _ (flight_dates settled.in_flight) (after t _ (last_gone-joined now b settled))
              nothing_left.departures);
          timeout = nothing_left.timeout;
          landing = nothing_left.landing;
          start = nothing_left.start;
        }))
