-- The one case in which an earlier look may tell, and that everywhere else, within the limits, the passes agree. Assumes nothing.
use Rattle.std.specs.Prelude.{◌≡◌, refl, ℕ, ◌≤◌, Bool, Some, None}
use Rattle.std.proofs.Math.Bool.{true, false}
use Rattle.std.proofs.Math.Option.{some}
use Rattle.model.specs.State.{OnTheLine, Uart, line_of}
use Rattle.model.specs.Settle.{tx_done, leave, depart, passes, settings_of}
use Rattle.model.specs.Line.{raise_if}
use Rattle.model.specs.Limits.{Within}
use Rattle.theorems.specs.TwoSteps.Later.{passes-later}
use Rattle.theorems.specs.TwoSteps.ClockOff.{passes-off}
use Rattle.model.specs.Names.{Date}

-- a byte that is not heard is on the line, an idle line is open, and the receiver's clock is on
abbrev pub Exception : {H W : Type 0} → Uart H W → Type 0
Exception {H} u =
    (l : OnTheLine H) × (u.receiving ≡ some l) × (l.frame.heard ≡ false)
    × (since : ℕ) × ((line_of u).idle_since ≡ Some since) × ((settings_of u).rx_sclk_en ≡ true)

module _ {H W : Type 0} (u : Uart H W) (w : Within u) (n : ¬ Exception u) where
  -- with the clock on no idle line is open beside a byte on the line: a heard one closes it
  module _ (on : (settings_of u).rx_sclk_en ≡ true) (l : OnTheLine H) (e : u.receiving ≡ some l) where
    by-idle : l.frame.heard ≡ false → (d : Date) → (line_of u).idle_since ≡ d → (line_of u).idle_since ≡ None
    by-idle h None i = i
    by-idle h (Some t) i = absurd (n (l, e, h, t, i, on))

    by-heard : (t : Bool) → l.frame.heard ≡ t → (line_of u).idle_since ≡ None
    by-heard true h = w.idle_line l e h
    by-heard false h = by-idle h (line_of u).idle_since refl

    alone : (line_of u).idle_since ≡ None
    alone = by-heard l.frame.heard refl

  -- departures touch nothing of that
  module _ (a b : ℕ) (le : a ≤ b) (date : ℕ) where
    abbrev Agree : Type 0
    Agree =
        (passes (settings_of u) b (passes (settings_of u) a (depart date u)).state).state
        ≡ (passes (settings_of u) b (depart date u)).state

    by-clock : (t : Bool) → (settings_of u).rx_sclk_en ≡ t → Agree
    unfolding depart leave tx_done raise_if
    by-clock true on = passes-later (settings_of u) a b le on (depart date u) (alone on)
    by-clock false off = passes-off (settings_of u) off a b (depart date u) le

    pub passes-agree : Agree
    passes-agree = by-clock (settings_of u).rx_sclk_en refl
