-- Refused or carried out: a refused call leaves the state as it was, and one that is carried out has passed its tests, so a
-- dated one is dated below 2^59. Assumes nothing.
use Rattle.std.specs.Prelude.{◌≡◌, ℕ, ◌<◌, Bool, true, false}
use Rattle.std.proofs.Math.Path.{refl}
use Rattle.std.proofs.Math.Option.{Option, none, some, some-ne-none}
use Rattle.std.proofs.Common.{leb-false}
use Rattle.model.specs.State.{Uart}
use Rattle.model.specs.Tests.{date_end, past_end, went_back, refuse_if, refuse_date}
use Rattle.model.specs.Calls.{Outcome, refusing, unless, dated}
use Rattle.model.specs.Plans.{settle_at}
use Rattle.model.proofs.Keeps.Parts.{Parts, put_clock}
use Rattle.model.proofs.Keeps.Settling.{settle-parts}
use Rattle.model.specs.declared.Refusal.{Refusal}

-- a test that does not refuse, and the tests after it
pub not-refused : (test : Bool) (r : Refusal) (rest : Option Refusal) → refuse_if test r rest ≡ none → (test ≡ false) × (rest ≡ none)
unfolding refuse_if
not-refused true r rest e = absurd (some-ne-none r e)
not-refused false r rest e = (refl, e)

-- a refused call keeps the whole state
pub refused-state : {R H W : Type 0} (r : Refusal) (reply : Refusal → R) (work : Uart H W → Outcome R H W) (u : Uart H W)
    → (unless (some r) reply work u).state ≡ u
unfolding unless refusing
refused-state r reply work u = refl

module _ {R H W : Type 0} (reply : Refusal → R) (work : Uart H W → Outcome R H W) (u : Uart H W) (p : Parts u) where
  pub unless-parts : (o : Option Refusal) → (o ≡ none → Parts (work u).state) → Parts (unless o reply work u).state
  unfolding unless refusing
  unless-parts none w = w refl
  unless-parts (some r) w = p

  -- tests 2 and 3 come first
  pub dated-parts : (now : ℕ) (rest : Option Refusal) → (now < date_end → rest ≡ none → Parts (work u).state)
      → Parts (unless (refuse_date now u.control rest) reply work u).state
  unfolding refuse_date
  dated-parts now rest w =
      unless-parts _ (λ e. let past = not-refused (past_end now) _ _ e in w (leb-false _ _ past.0)
      (not-refused (went_back u.control.last now) _ _ past.1).1)

module _ {H W : Type 0} (now : ℕ) (u : Uart H W) (h : now < date_end) (p : Parts u) where
  -- the last date moves
  pub moved-parts : Parts (dated now u)
  unfolding dated
  moved-parts = put_clock p (record { low = p.clock.low; high = p.clock.high; last = h; wake = p.clock.wake })

  pub settle_at-parts : Parts (settle_at now u).state
  settle_at-parts = settle-parts now (dated now u) moved-parts
