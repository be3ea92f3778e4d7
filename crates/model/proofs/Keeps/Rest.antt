-- What the passes of a settling leave alone, and what the whole settling does. Assumes nothing.
use Rattle.model.specs.declared.Source.{Source}
use Rattle.std.specs.Prelude.{◌≡◌, refl, ℕ, false, [], None}
use Rattle.std.proofs.Math.Path.{ap}
use Rattle.std.proofs.Common.{◌∙◌}
use Rattle.std.proofs.Math.Bool.{true}
use Rattle.std.proofs.Math.Option.{none}
use Rattle.model.specs.State.{Uart}
use Rattle.model.specs.Setters.{with_line, with_level, with_control, with_host, with_receiving, with_rx}
use Rattle.model.specs.Settle.{Pass, leave, depart, nothing_due, timed_out, landed, begun, pass, passes, levels, leveled}
use Rattle.model.specs.Settle.{assert_levels, drive, settings_of, settle_to}
use Rattle.model.proofs.Laws.Cases.{pass-cases, passes_on}
use Rattle.model.specs.declared.Line.{Line}
use Rattle.model.specs.declared.Settings.{Settings}

abbrev pub no_line : Line
no_line = record { int_raw = 0; rx_mistimed = Source.None; idle_since = None; line_free_at = 0 }

module _ {H W : Type 0} where
  -- the state without what a pass or the levels may change
  abbrev pub rest : Uart H W → Uart H W
  rest u = with_host [] [] (with_receiving none (with_rx [] (with_control (with_level false (with_line no_line u.control)) u)))

  pub pass-keeps : (s : Settings) (date : ℕ) (u : Uart H W) → rest (pass s date u).state ≡ rest u
  unfolding timed_out nothing_due landed begun
  pass-keeps s date =
      pass-cases s date (λ (u : Uart H W) (p : Pass H W). rest p.state ≡ rest u) (λ u _. refl) (λ u. refl) (λ u l _. refl)
      (λ u r rs b bs p _ _ _ h. h)

  -- a settling beyond its departures changes only the line, the receive side and the level
  pub settle_to-keeps : (date : ℕ) (u : Uart H W) → rest (settle_to date u).state ≡ rest (depart date u)
  unfolding settle_to leveled levels drive assert_levels passes
  settle_to-keeps date u =
      passes_on (λ (v w : Uart H W). rest w ≡ rest v) (settings_of u) date (λ v. refl) (λ v w x a b. b ∙ a)
      (pass-keeps (settings_of u) date) _ true _

  module _ (date : ℕ) (u : Uart H W) where
    pub settle_to-map : (settle_to date u).state.map ≡ u.map
    unfolding depart leave
    settle_to-map = ap (λ (v : Uart H W). v.map) (settle_to-keeps date u)

    pub settle_to-words : (settle_to date u).state.control.words ≡ u.control.words
    unfolding depart leave
    settle_to-words = ap (λ (v : Uart H W). v.control.words) (settle_to-keeps date u)

    pub settle_to-period : (settle_to date u).state.control.period ≡ u.control.period
    unfolding depart leave
    settle_to-period = ap (λ (v : Uart H W). v.control.period) (settle_to-keeps date u)

    -- what is in flight and what has left are as the departures leave them
    pub settle_to-in_flight : (settle_to date u).state.in_flight ≡ (depart date u).in_flight
    settle_to-in_flight = ap (λ (v : Uart H W). v.in_flight) (settle_to-keeps date u)

    pub settle_to-tx : (settle_to date u).state.tx ≡ (depart date u).tx
    settle_to-tx = ap (λ (v : Uart H W). v.tx) (settle_to-keeps date u)
