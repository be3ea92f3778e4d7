-- The passes in a loop: what is still to run is what the definition runs from where the loop stands. Assumes nothing.
use Rattle.std.specs.Prelude.{◌≡◌, Bool, true, ℕ, ◌+◌, ◌≤◌, ◌<◌, Some, None}
use Rattle.std.proofs.Math.Path.{refl, ap, sym}
use Rattle.std.proofs.Common.{◌∙◌, arith}
use Rattle.std.proofs.Math.Bool.{false}
use mathlib.Core.List.{List, [], ◌∷◌}
use Rattle.model.specs.State.{Uart}
use Rattle.model.specs.Events
use Rattle.model.specs.Events.{Event, total, passes_in, overflows_in}
use Rattle.model.specs.Settle
use Rattle.model.specs.Settle.{Settled, pass, found, ended, pending, on_the_line}
use Rattle.model.specs.SetUp.{new}
use Rattle.model.proofs.Ends.Through.{pass-one, passes_go, passes-end, passes-bound}
use Rattle.model.specs.declared.Settings.{Settings}
use Rattle.line.specs.declared.Found.{Found}
use Rattle.queue.specs.Cursors.{slot_of}
use Rattle.queue.specs.Laws.{elems-length}
use Rattle.line.specs.Seen.{Seen, seen, goes_on, lost, goes_on-seen, loses}
use Rattle.line.specs.Names.{Receiving}
use Rattle.device.specs.Holds
use Rattle.device.specs.Receives.{Fit, with}
use Rattle.device.specs.Ends.{Gives}
use Rattle.device.specs.declared.pass.Reception.{Reception}

module _ {H W : Type 0} (s : Settings) (date : ℕ) where
  -- ---- one pass of the definition, seen by the code

  first-pass : (u : Uart H W) (es : List (Event H W)) → passes_in ((pass s date u).event ∷ es) ≡ 1 + passes_in es
  unfolding passes_in total
  first-pass u es = omega (arith, pass-one s date u)

  module _ (u : Uart H W) {v : Uart H W} {f : Found} (e : seen (pass s date u) ≡ record { found = f; state = v }) where
    again : (go : Bool) → goes_on f ≡ go → Events.goes_on (pass s date u).event ≡ go
    again go g = goes_on-seen (pass s date u).event ∙ ap (λ (x : Seen H W). goes_on x.found) e ∙ g

    left : (pass s date u).state ≡ v
    left = ap (λ (x : Seen H W). x.state) e

    first-loss : {n : ℕ} → n ≡ lost f → (es : List (Event H W)) → overflows_in ((pass s date u).event ∷ es) ≡ n + overflows_in es
    unfolding overflows_in total
    first-loss k es = omega (arith, k, loses (pass s date u).event, ap (λ (x : Seen H W). lost x.found) e)

  -- ---- the loop

  -- so many passes and overflows are behind, u is the state before the next pass, and t is the whole
  pub record Ran (u : Uart H W) (p o : ℕ) (t : Settled H W) : Type 0 where
    pub state : (Settle.passes s date u).state ≡ t.state
    pub passes : p + passes_in (Settle.passes s date u).events ≡ passes_in t.events
    pub overflows : o + overflows_in (Settle.passes s date u).events ≡ overflows_in t.events
    pub left : p < passes_in t.events

  some-pass : (u : Uart H W) (go : Bool) → Events.goes_on (pass s date u).event ≡ go → 0 < passes_in (Settle.passes s date u).events
  some-pass u true g =
      rw (passes_go s date u refl g) (omega (arith, first-pass u (Settle.passes s date (pass s date u).state).events))
  some-pass u false g = rw (passes-end s date u refl g) (omega (arith, first-pass u []))

  pub ran_first : (u : Uart H W) → Ran u 0 0 (Settle.passes s date u)
  ran_first u =
      record { state = refl; passes = omega arith; overflows = omega arith; left = some-pass u (Events.goes_on (pass s date u).event) refl }

  module _ {u v : Uart H W} {f : Found} {p o n : ℕ} {t : Settled H W} (k : Ran u p o t)
      (e : seen (pass s date u) ≡ record { found = f; state = v }) (l : n ≡ lost f) where
    -- a pass that found something: the rest runs from the state that it left
    pub ran-more : goes_on f ≡ true → Ran v (p + 1) (o + n) t
    ran-more g =
        let r : Settle.passes s date u ≡ found ((pass s date u).event ∷ []) (Settle.passes s date v) =
        passes_go s date u refl (again u e true g)
        ∙ ap (λ (x : Uart H W). found ((pass s date u).event ∷ []) (Settle.passes s date x)) (left u e) in
        let es : List (Event H W) = (Settle.passes s date v).events in
        let q : passes_in (Settle.passes s date u).events ≡ 1 + passes_in es = ap (λ (x : Settled H W). passes_in x.events) r
        ∙ first-pass u es in
        let some : 0 < passes_in es = some-pass v (Events.goes_on (pass s date v).event) refl in
        record {
          state = sym (ap (λ (x : Settled H W). x.state) r) ∙ k.state;
          passes = omega (arith, q, k.passes);
          overflows = omega (arith, ap (λ (x : Settled H W). overflows_in x.events) r, first-loss u e l es, k.overflows);
          left = omega (arith, q, k.passes, some);
        }

    -- a pass that found nothing due is the last
    pub ran-end : goes_on f ≡ false → Gives t v (p + 1) (o + n)
    unfolding passes_in overflows_in total
    ran-end g =
        let r : Settle.passes s date u ≡ found ((pass s date u).event ∷ []) (ended v) =
        passes-end s date u refl (again u e false g) ∙ ap (λ (x : Uart H W). found ((pass s date u).event ∷ []) (ended x)) (left u e) in
        record {
          state = sym (ap (λ (x : Settled H W). x.state) r) ∙ k.state;
          passes = omega (arith, ap (λ (x : Settled H W). passes_in x.events) r, first-pass u [], k.passes);
          overflows = omega (arith, ap (λ (x : Settled H W). overflows_in x.events) r, first-loss u e l [], k.overflows);
        }

-- ---- how many there can be

-- a state to count passes in: what is not of the receive side has no say
pub blank : Uart ℕ ℕ
blank = new [] []

one_on : (r : Receiving) (b : ℕ) → on_the_line (Holds.on_the_line r b) ≤ 1
unfolding on_the_line Holds.on_the_line
one_on None b = omega arith
one_on (Some f) b = omega arith

pub few-passes : (s : Settings) (date : ℕ) (at : Reception) (hosts dates counts rxs : List ℕ) → Fit at hosts dates counts rxs
    → passes_in (Settle.passes s date (with at hosts dates counts rxs blank)).events ≤ 2052
unfolding pending
few-passes s date at hosts dates counts rxs fit =
    omega (
      arith,
      passes-bound s date (with at hosts dates counts rxs blank),
      one_on at.receiving at.byte,
      elems-length (slot_of hosts 0) 1024 at.host,
      fit.host.few,
    )
