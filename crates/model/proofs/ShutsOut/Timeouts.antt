-- A receive timeout: it comes only when the line has been idle so long, it closes the idle line whatever it raises, and
-- disabled it raises nothing. Assumes nothing.
use Rattle.std.specs.Prelude.{◌≡◌, ℕ, suc, ◌*◌, ◌≤◌, Bool, ◌&&◌, ◌||◌, ltb, length, Some, None}
use Rattle.std.proofs.Math.Path.{refl, ap, subst}
use Rattle.std.proofs.Common.{sym, ◌∙◌}
use Rattle.std.proofs.Math.Numerals.{add-two}
use Rattle.std.proofs.Math.Bool.{true, false, or-false}
use Rattle.std.proofs.Math.Option.{Option, none}
use mathlib.Core.List.{List, [], ◌∷◌}
use Rattle.model.specs.Numbers.{choose, bit, due_by}
use Rattle.model.specs.Manual
use Rattle.model.specs.State.{Run, OnTheLine, Uart, line_of}
use Rattle.model.specs.Events.{timeout}
use Rattle.model.specs.Line.{raise_if, after_date, timeout_at}
use Rattle.model.specs.Settle.{Pass, tx_done, leave, depart, nothing_due, timed_out, idle, line_free, pass_on}
use Rattle.model.specs.Settle.{pass, passes_from, pending, passes, assert_levels, drive, levels, leveled, settings_of}
use Rattle.model.specs.Settle.{settle_to, settle, settling_date}
use Rattle.model.specs.Map.{Register, register_of}
use Rattle.model.specs.Registers.{Access, pop, read_register, read_looking, read_at}
use Rattle.model.specs.Calls.{dated, after_settling, read_placed, carried}
use Rattle.model.specs.Plans.{settle_at}
use Rattle.model.specs.Call.{Dated, Call}
use Rattle.model.specs.Run.{Step, step}
use Rattle.model.specs.Run.{answering}
use Rattle.model.proofs.Laws.Cases.{passes_on}
use Rattle.model.proofs.Ends.Passes.{TakesTimeout, Takes, pass-law, time_out-closes}
use Rattle.model.proofs.MeetsManual.Rises.{raw_bit}
use Rattle.model.proofs.MeetsManual.FiveBits.{no-timeout, settling-rises}
use Rattle.model.proofs.Laws.AccessCases.{read_register-ind}
use Rattle.model.proofs.MeetsManual.Answers.{settled, InTime, read_answer}
use Rattle.model.specs.Names.{Date}
use Rattle.model.specs.declared.Unsupported.{Unsupported}
use Rattle.model.specs.declared.Settings.{Settings}

-- a pass takes a timeout only when it is due, and then the idle line is closed, enabled or not, with a byte held or not
pub pass-closes : {H W : Type 0} (s : Settings) (date at : ℕ) (u : Uart H W) → (pass s date u).event ≡ timeout at
    → (timeout_at s (line_of u) ≡ Some at) × (at ≤ date) × ((line_of (pass s date u).state).idle_since ≡ None)
pass-closes s date at u e =
    let t : TakesTimeout s date u at (pass s date u).state =
    subst (λ x. Takes s date u x (pass s date u).state) e (pass-law s date u).takes in
    (t.comes, t.due, t.closed)

-- ---- with no host byte on the line or waiting

record Still {H W : Type 0} (u : Uart H W) : Type 0 where
  line : u.receiving ≡ none
  waiting : u.host ≡ []

record Closed {H W : Type 0} (u : Uart H W) : Type 0 where
  still : Still u
  idle_line : (line_of u).idle_since ≡ None

module _ {H W : Type 0} (s : Settings) (date : ℕ) where
  no-host : (rs : List Run) (u : Uart H W) → line_free s date rs [] u ≡ idle s date u
  unfolding line_free
  no-host [] u = refl
  no-host (r ∷ rs) u = refl

  still-pass : (u : Uart H W) → Still u → pass s date u ≡ idle s date u
  unfolding pass pass_on
  still-pass u h =
      ap (λ (o : Option (OnTheLine H)). pass_on s date o u) h.line ∙ ap (λ (bs : List H). line_free s date u.host_runs bs u) h.waiting
      ∙ no-host u.host_runs u

  idle-due : (u : Uart H W) (b : Bool) → due_by date (timeout_at s (line_of u)) ≡ b
      → idle s date u ≡ choose b (timed_out s u) (nothing_due date u)
  unfolding idle
  idle-due u b h = ap (λ (t : Bool). choose t (timed_out s u) (nothing_due date u)) h

  closed-pass : (u : Uart H W) → Closed u → pass s date u ≡ nothing_due date u
  unfolding choose timeout_at after_date due_by
  closed-pass u h =
      still-pass u h.still ∙ idle-due u false (ap (λ (d : Date). due_by date (after_date s.timeout_time d)) h.idle_line)

  closed-passes : (k : ℕ) (go : Bool) (u : Uart H W) → Closed u → Closed (passes_from s date k go u).state
  unfolding nothing_due
  closed-passes =
      passes_on (λ (u v : Uart H W). Closed u → Closed v) s date (λ u h. h) (λ u v w a b h. b (a h))
      (λ u h. subst (λ (p : Pass H W). Closed p.state) (sym (closed-pass u h)) h)

  due-pass : (u : Uart H W) → Still u → due_by date (timeout_at s (line_of u)) ≡ true → Closed (pass s date u).state
  unfolding choose timed_out
  due-pass u h due =
      subst (λ (p : Pass H W). Closed p.state) (sym (still-pass u h ∙ idle-due u true due))
      (record { still = record { line = h.line; waiting = h.waiting }; idle_line = time_out-closes s (length u.rx) (line_of u) })

  due-passes : (k : ℕ) (u : Uart H W) → Still u → due_by date (timeout_at s (line_of u)) ≡ true
      → Closed (passes_from s date (suc k) true u).state
  unfolding passes_from
  due-passes k u h due = closed-passes k _ _ (due-pass u h due)

-- a settling at or after the timeout's date closes the idle line
settling-closes : {H W : Type 0} (date : ℕ) (u : Uart H W) → Still u → due_by date (timeout_at (settings_of u) (line_of u)) ≡ true
    → (line_of (settle_to date u).state).idle_since ≡ None
unfolding settle_to leveled levels drive assert_levels raise_if passes depart leave tx_done timeout_at
settling-closes date u h due =
    ap (λ (k : ℕ). (line_of (passes_from (settings_of u) date k true (depart date u)).state).idle_since)
    (add-two (2 * pending (depart date u)))
    ∙ (due-passes (settings_of u) date (suc (2 * pending (depart date u))) (depart date u)
    (record { line = h.line; waiting = h.waiting }) due).idle_line

-- ---- of step

module _ {H W : Type 0} where
  abbrev IdleKept : Uart H W → {R : Type 0} → Access R H W → Type 0
  IdleKept u a = (line_of a.state).idle_since ≡ (line_of u).idle_since

  pop-idle : (ns : List Unsupported) (bs : List H) (u : Uart H W) → IdleKept u (pop ns bs u)
  unfolding pop
  pop-idle ns [] u = refl
  pop-idle ns (b ∷ bs) u = refl

  given-idle : (ns : List Unsupported) (p : Register) (u : Uart H W) → IdleKept u (read_register ns p u)
  given-idle ns p u = read_register-ind (IdleKept u) ns u (pop-idle ns u.rx u) (λ r. refl) p

  looking-idle : (b : Bool) (p : Register) (u : Uart H W) → IdleKept u (read_looking b p u)
  unfolding read_looking
  looking-idle true p u = given-idle _ p _
  looking-idle false p u = given-idle [] p u

-- once its date has come, the timeout has closed the idle line, enabled or not: seen after a read anywhere
pub timeout-closes-line : (now offset : ℕ) (u : Uart ℕ ℕ) → InTime now u → u.receiving ≡ none → u.host ≡ []
    → due_by (settling_date now u.control) (timeout_at (settings_of u) (line_of u)) ≡ true
    → (line_of (step (Call.at now (Dated.read offset)) u).state).idle_since ≡ None
unfolding answering carried read_placed after_settling read_at settle settling_date dated settings_of
timeout-closes-line now offset u t line waiting due =
    let p : Register = register_of u.map.offsets offset in
    ap (λ (x : Step ℕ ℕ ℕ). (line_of x.state).idle_since) (read_answer t offset p refl)
    ∙ looking-idle _ p (settle_at now u).state
    ∙ settling-closes _ (dated now u) (record { line = line; waiting = waiting }) due

off-tout : (conf1 clk_conf : ℕ) → bit 21 conf1 ≡ false → (held : ℕ) → Manual.RXFIFO-TOUT conf1 clk_conf true held ≡ false
unfolding Manual.RXFIFO-TOUT
off-tout conf1 clk_conf e held = ap (λ (t : Bool). t && bit 25 clk_conf && ltb 0 held) e

-- with RX_TOUT_EN clear no settling raises RXFIFO_TOUT
pub disabled-raises-nothing : (now : ℕ) (u : Uart ℕ ℕ) → bit 21 u.control.words.conf1 ≡ false → raw_bit 8 (settled now u) ≡ raw_bit 8 u
unfolding settle dated
disabled-raises-nothing now u e =
    (settling-rises _ (dated now u)).tout
    ∙ ap (λ (b : Bool). raw_bit 8 u || b)
    (no-timeout _ (off-tout u.control.words.conf1 u.control.words.clk_conf e) u.rx _)
    ∙ or-false (raw_bit 8 u)
