-- Two settlings as one: the departures of both come first, then the passes to the earlier date and those to the later, then the
-- levels. Assumes nothing.
use Rattle.std.specs.Prelude.{◌≡◌, refl, ℕ, ◌^◌, ◌≤◌, take}
use Rattle.std.proofs.Math.Path.{sym, ap, ap₂}
use Rattle.std.proofs.Common.{◌∙◌, arith, length-append}
use Rattle.std.proofs.Math.Bool.{true}
use mathlib.Core.List.{[], ◌++◌, map}
use Rattle.std.proofs.Math.ListN.{length, length-drop}
use Rattle.model.specs.State.{Uart, line_of}
use Rattle.model.specs.Setters.{with_int_raw, with_control, with_line, with_level}
use Rattle.model.specs.Events.{departure}
use Rattle.model.specs.Timing.{settings}
use Rattle.model.specs.Line.{TX-DONE, raise_if}
use Rattle.model.specs.Settle.{gone, tx_done, leave, depart, departures, pass, passes}
use Rattle.model.specs.Settle.{assert_levels, drive, levels, leveled, settings_of, settle_to}
use Rattle.model.proofs.Laws.Choose.{choose-nat}
use Rattle.model.proofs.Laws.Cases.{passes_on}
use Rattle.model.proofs.Ends.Passes.{Kept}
use Rattle.model.proofs.Ends.Through.{through, through-kept}
use Rattle.model.proofs.ShutsOut.Landings.{pass-grows}
use Rattle.theorems.specs.TwoSteps.Dressed.{dressed, passes-dressed}
use Rattle.theorems.specs.TwoSteps.Departures.{departing, depart-dressed, depart-twice}
use Rattle.theorems.specs.TwoSteps.Levels.{leveling, levels-dressed, levels-again}
use Rattle.model.specs.declared.Settings.{Settings}

-- ---- what passes and departures do to each other

module _ {H W : Type 0} (s : Settings) (date : ℕ) (u : Uart H W) where
  -- the receive FIFO only grows
  pass-grow : (v : Uart H W) → length v.rx ≤ length (pass s date v).state.rx
  pass-grow v =
      let (more, e) = pass-grows s date v in
      omega (arith, ap length e, length-append v.rx more)

  passes-grow : length u.rx ≤ length (passes s date u).state.rx
  unfolding passes
  passes-grow =
      passes_on (λ (v w : Uart H W). length v.rx ≤ length w.rx) s date (λ v. omega arith) (λ v w x p q. omega arith) pass-grow
      _ true u

  passes_kept : Kept u (passes s date u).state
  passes_kept = through-kept s date (through s date u)

  -- departures before the passes or after them
  passes-depart : (gone : ℕ)
      → passes s date (depart gone u) ≡ record { state = depart gone (passes s date u).state; events = (passes s date u).events }
  passes-depart gone =
      ap (passes s date) (depart-dressed gone u)
      ∙ passes-dressed (departing gone) s date u
      ∙ ap (λ v. record { state = v; events = (passes s date u).events }) (sym (depart-dressed gone (passes s date u).state))

-- ---- levels in between

-- departures before the levels of a state or after them
depart-leveling : {H W : Type 0} (w z : Uart H W) (date : ℕ) → depart date (dressed (leveling w) z) ≡ dressed (leveling w) (depart date z)
unfolding depart leave tx_done raise_if
depart-leveling w z date =
    let asserted = (leveling w).raise [] in
    ap (λ (raw : ℕ). with_control (with_level (levels w).control.level (with_line (with_int_raw raw (line_of z)) z.control))
    (depart date z))
    (choose-nat asserted _ (sym ((leveling w).free [] (line_of z).int_raw (2 ^ TX-DONE))) refl)

-- ---- both settlings

module _ {H W : Type 0} (a b : ℕ) (le : a ≤ b) (u : Uart H W) where
  abbrev s : Settings
  s = settings_of u

  -- where the first settling's passes end
  abbrev first : Uart H W
  first = (passes s a (depart a u)).state

  -- where they end if all has left before them that leaves by `b`
  abbrev pub between : Uart H W
  between = (passes s a (depart b u)).state

  first-left : depart b first ≡ between
  first-left = sym (ap (λ t. t.state) (passes-depart s a (depart a u) b)) ∙ ap (λ v. (passes s a v).state) (depart-twice a b le u)

  first-kept : Kept (depart a u) first
  first-kept = passes_kept s a (depart a u)

  first-settings : settings_of (levels first) ≡ s
  unfolding settings_of levels assert_levels drive depart leave
  first-settings = ap (λ c. settings c.words c.period) first-kept.control

  second-passes : passes (settings_of (levels first)) b (depart b (levels first))
      ≡ record { state = dressed (leveling first) (passes s b (depart b first)).state; events = (passes s b (depart b first)).events }
  second-passes =
      ap₂ (λ x y. passes x b (depart b y)) first-settings (levels-dressed first)
      ∙ ap (passes s b) (depart-leveling first first b)
      ∙ passes-dressed (leveling first) s b (depart b first)

  second-kept : Kept (depart b first) (passes s b (depart b first)).state
  second-kept = passes_kept s b (depart b first)

  second-levels : levels (dressed (leveling first) (passes s b (depart b first)).state) ≡ levels (passes s b (depart b first)).state
  unfolding depart leave
  second-levels =
      levels-again first (passes s b (depart b first)).state (ap (λ c. c.words) second-kept.control) (passes-grow s b (depart b first))
      (omega (arith, ap length second-kept.in_flight, length-drop (gone b first.in_flight) first.in_flight))

  -- what is between the two changes nothing but what the passes do
  pub settled-state : (settle_to b (settle_to a u).state).state ≡ levels (passes s b between).state
  unfolding settle_to leveled
  settled-state = ap (λ t. levels t.state) second-passes ∙ second-levels ∙ ap (λ v. levels (passes s b v).state) first-left

  pub second-departures : departures b (settle_to a u).state ≡ departures b (depart a u)
  unfolding departures levels settle_to leveled
  second-departures = ap (λ fl. map (λ s. departure s.gone_at s.byte) (take (gone b fl) fl)) first-kept.in_flight

  pub second-events : (settle_to b (settle_to a u).state).events ≡ departures b (depart a u) ++ (passes s b between).events
  unfolding settle_to leveled
  second-events =
      ap₂ (λ x y. x ++ y) second-departures (ap (λ t. t.events) second-passes ∙ ap (λ v. (passes s b v).events) first-left)

  pub first-events : (settle_to a u).events ≡ departures a u ++ (passes s a (depart b u)).events
  unfolding settle_to leveled
  first-events =
      ap (λ es. departures a u ++ es)
      (ap (λ t. t.events) (passes-depart s a u a) ∙ sym (ap (λ t. t.events) (passes-depart s a u b)))
