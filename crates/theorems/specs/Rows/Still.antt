-- A still state: nothing is due, levels are raised and the wake is armed. Settling it at the same cycle again changes nothing, in one
-- pass. Assumes nothing.
use Rattle.std.specs.Prelude.{◌≡◌, Bool, false, ◌&&◌, ltb, eqb, length, take, Some, None}
use Rattle.std.proofs.Math.Path.{refl, ap, ap₂}
use Rattle.std.proofs.Common.{sym, ◌∙◌, lt-ltb, ne_eqb}
use Prim.Native.Nat.{ℕ, zero, suc, ◌+◌, ◌-◌, ◌*◌, ◌<◌}
use native.Mathlib.Omega.{arith}
use Rattle.std.proofs.Math.Bool.{true, and-false}
use Rattle.std.proofs.Math.Option.{Option, none, some}
use mathlib.Core.List.{List, [], ◌∷◌, map, append-nil}
use Rattle.std.proofs.lemmas.Bool.{lt-leb}
use Rattle.dates.specs.Dates.{earlier}
use Rattle.model.specs.Numbers.{choose, due_by}
use Rattle.model.specs.State.{Sent, Run, OnTheLine, Uart, line_of}
use Rattle.model.specs.Setters.{with_line_of, with_control, with_last}
use Rattle.model.specs.Events.{departure, nothing, goes_on}
use Rattle.model.specs.Line.{raise_if, timeout_at}
use Rattle.model.specs.Settle.{gone, tx_done, leave, depart, departures, Pass}
use Rattle.model.specs.Settle.{nothing_due, in_frame, before_start, idle, line_free, pass_on}
use Rattle.model.specs.Settle.{pass, found, ended, passes_from, pending, passes, settling_date, levels, leveled, settings_of}
use Rattle.model.specs.Settle.{settle_to, settle}
use Rattle.model.specs.Arm.{arm}
use Rattle.model.specs.Calls.{dated}
use Rattle.model.specs.Plans.{settle_at}
use Rattle.model.proofs.Laws.Choose.{choose-true, choose-false}
use Rattle.model.specs.Limits.{All, cons, flight_dates}
use Rattle.model.proofs.Ends.Passes.{After, LineQuiet}
use Rattle.model.proofs.Ends.NothingDue.{NothingLeft}
use Rattle.model.specs.Names.{Date}
use Rattle.model.specs.declared.Settings.{Settings}

-- ---- a pass that finds nothing

after-not-due : (date : ℕ) (d : Date) → After date d → due_by date d ≡ false
unfolding due_by
after-not-due date None h = refl
after-not-due date (Some t) h = lt-leb t date h

earlier-not-due : (date at : ℕ) (d : Date) → After date d → due_by (earlier date at) d ≡ false
unfolding due_by
earlier-not-due date at None h = refl
earlier-not-due date at (Some t) h = lt-leb t _ (omega (arith, h))

module _ {H W : Type 0} (s : Settings) (date : ℕ) (u : Uart H W) (q : LineQuiet s date u) where
  no-timeout : {P : Type 0} (out rest : P) → choose (due_by date (timeout_at s (line_of u))) out rest ≡ rest
  no-timeout out rest = choose-false out rest (after-not-due date _ q.timeout)

  quiet-free : u.receiving ≡ none → (rs : List Run) (bs : List H) → u.host_runs ≡ rs → u.host ≡ bs
      → line_free s date rs bs u ≡ nothing_due date u
  unfolding line_free idle before_start
  quiet-free f [] bs p r = no-timeout _ _
  quiet-free f (x ∷ rs) [] p r = no-timeout _ _
  quiet-free f (x ∷ rs) (b ∷ bs) p r =
      choose-false _ _ (earlier-not-due date _ _ q.timeout) ∙ choose-true _ _ (lt-ltb date _ (q.start f x rs b bs p r))

  quiet-on : (o : Option (OnTheLine H)) → u.receiving ≡ o → pass_on s date o u ≡ nothing_due date u
  unfolding pass_on in_frame
  quiet-on none e = quiet-free e u.host_runs u.host refl refl
  quiet-on (some l) e = no-timeout _ _ ∙ choose-true _ _ (lt-ltb date _ (q.landing l e))

  quiet_pass : pass s date u ≡ nothing_due date u
  unfolding pass
  quiet_pass = quiet-on u.receiving refl

  rests : (k : ℕ) → passes_from s date k false u ≡ ended u
  unfolding passes_from
  rests zero = refl
  rests (suc k) = refl

  quiet-passes : passes s date u ≡ record { state = u; events = nothing date ∷ [] }
  unfolding passes passes_from nothing_due goes_on
  quiet-passes =
      let one_more : 2 * pending u + 2 ≡ suc (2 * pending u + 1) = omega arith in
      ap (λ (k : ℕ). passes_from s date k true u) one_more
      ∙ ap (λ (p : Pass H W). found (p.event ∷ []) (passes_from s date (2 * pending u + 1) (goes_on p.event) p.state)) quiet_pass
      ∙ ap (found (nothing date ∷ [])) (rests (2 * pending u + 1))

-- ---- no departure

no-gone : {W : Type 0} (date : ℕ) (l : List (Sent W)) → All (λ t. date < t) (flight_dates l) → gone date l ≡ 0
unfolding gone
no-gone date [] a = refl
no-gone date (s ∷ ss) (cons h a) =
    ap (λ (b : Bool). elim b as (λ _. ℕ) [ true ↦ suc (gone date ss) | false ↦ zero ]) (lt-leb s.gone_at date h)

not_done : (n : ℕ) → (ltb 0 n && eqb (n - 0) 0) ≡ false
not_done zero = refl
not_done (suc n) =
    ap (λ (b : Bool). ltb 0 (suc n) && b) (ne_eqb (suc n - 0) 0 (λ e. omega (arith, e))) ∙ and-false (ltb 0 (suc n))

none-departs : {H W : Type 0} (date : ℕ) (u : Uart H W) → gone date u.in_flight ≡ 0 → depart date u ≡ u
unfolding depart tx_done leave raise_if choose
none-departs date u e =
    ap (λ (k : ℕ). with_line_of (tx_done (length u.in_flight) (length u.in_flight - k) (line_of u)) (leave k u)) e
    ∙ ap (λ (t : Bool). with_line_of (raise_if t 14 (line_of u)) (leave 0 u)) (not_done (length u.in_flight))
    ∙ ap (λ l. record {
      map = u.map;
      control = u.control;
      in_flight = u.in_flight;
      tx = l;
      host = u.host;
      host_runs = u.host_runs;
      receiving = u.receiving;
      rx = u.rx;
    }) (append-nil u.tx)

none-leaves : {H W : Type 0} (date : ℕ) (u : Uart H W) → gone date u.in_flight ≡ 0 → departures date u ≡ []
unfolding departures
none-leaves date u e = ap (λ (k : ℕ). map (λ s. departure s.gone_at s.byte) (take k u.in_flight)) e

-- ---- settled again

module _ {H W : Type 0} where
  pub left-settles : (date : ℕ) (u : Uart H W) → NothingLeft date u
      → settle_to date u ≡ record { state = levels u; events = nothing date ∷ [] }
  unfolding settle_to leveled
  left-settles date u n =
      let none-gone = no-gone date u.in_flight n.departures in
      let quiet : LineQuiet (settings_of u) date u = record { timeout = n.timeout; landing = n.landing; start = n.start } in
      ap₂ (λ es v. found es (leveled (passes (settings_of u) date v))) (none-leaves date u none-gone) (none-departs date u none-gone)
      ∙ ap leveled (quiet-passes (settings_of u) date u quiet)

  -- settled at a cycle, and nothing to raise or to arm
  pub record Still (now : ℕ) (u : Uart H W) : Type 0 where
    pub last : u.control.last ≡ now
    pub left : NothingLeft (settling_date now u.control) u
    pub leveled : levels u ≡ u
    pub armed : arm u ≡ u

  pub still-settles : (now : ℕ) (u : Uart H W) → Still now u
      → settle_at now u ≡ record { state = u; events = nothing (settling_date now u.control) ∷ [] }
  unfolding settle dated
  still-settles now u s =
      ap (λ (n : ℕ). settle now (with_control (with_last n u.control) u)) (sym s.last)
      ∙ left-settles (settling_date now u.control) u s.left
      ∙ ap (λ v. record { state = v; events = nothing (settling_date now u.control) ∷ [] }) s.leveled
