-- Laws that shut out wrong definitions: no register write, and no other call before its landing date, touches the byte on the
-- line or when it lands; no bit of INT_RAW falls but by INT_CLR and reset. Assumes nothing.
use Rattle.std.specs.Prelude.{◌≡◌, ℕ, ◌%◌, ◌≤◌, ◌<◌, Bool, ◌&&◌, ◌||◌}
use Rattle.std.proofs.Math.Path.{refl, ap, subst}
use Rattle.std.proofs.Common.{sym, ◌∙◌, not-le_of_lt, lt_of_le_of_lt, ltb-false}
use Rattle.std.proofs.Math.Bool.{true}
use Rattle.std.proofs.Math.Option.{Option, none, some, some-ne-none}
use Rattle.dates.specs.Dates.{subcycles}
use Rattle.model.specs.Numbers.{bit}
use Rattle.model.specs.State.{OnTheLine, Uart, line_of}
use Rattle.model.specs.Line.{raise_if, note_source, time_out}
use Rattle.model.specs.Settle.{Pass, tx_done, leave, depart, nothing_due, timed_out, in_frame, pass_on, pass, passes, assert_levels}
use Rattle.model.specs.Settle.{drive, levels, leveled, settings_of, settle_to, settle}
use Rattle.model.specs.Arm.{arm}
use Rattle.model.specs.Map.{Register, register_of}
use Rattle.model.specs.Registers.{Access, send_byte, sent, dropped, storing, clearing, reset_fifos, write_register, concluded}
use Rattle.model.specs.Calls
use Rattle.model.specs.Calls.{carried, cleared_line, cleared, after_settling, send, write_placed, dated}
use Rattle.model.specs.Plans.{settle_at}
use Rattle.model.specs.Call.{Machine, Dated, Call, date_of, Written, Request, writes}
use Rattle.model.specs.Run.{Step, number_of, stepped, replying, plan_by, writing, plan, step}
use Rattle.model.proofs.Laws.Choose.{choose-ind}
use Rattle.model.proofs.Laws.Cases.{passes_on}
use Rattle.model.proofs.MeetsManual.Rises.{raw_bit, settle_to-raises, levels-raise}
use Rattle.model.proofs.Laws.AccessCases.{write-ind, write_register-ind}
use Rattle.model.proofs.Refuses.Refusals.{same_some}
use Rattle.model.proofs.Refuses.Exactly.{call-carried}
use Rattle.model.proofs.ShutsOut.EveryCall.{Walk, every_call}
use Rattle.model.specs.declared.Line.{Line}
use Rattle.model.specs.declared.Settings.{Settings}
use Rattle.model.specs.Names.{Write}

-- ---- a write leaves the byte on the line

module _ {H W : Type 0} where
  -- the byte on the line, if there is one, and when it lands
  abbrev pub on_line : Uart H W → Option (OnTheLine H) × ℕ
  on_line u = (u.receiving, (line_of u).line_free_at)

  concluded-line : (a : Access Write H W) → on_line (concluded a).state ≡ on_line a.state
  unfolding concluded arm levels drive assert_levels raise_if
  concluded-line a = refl

  register-line : (v : ℕ) (u : Uart H W) (k : Register) → on_line (write_register k v u).state ≡ on_line u
  unfolding storing clearing reset_fifos
  register-line v u =
      write_register-ind (λ _ (a : Access Write H W). on_line a.state ≡ on_line u) v u (λ k. refl) refl (λ x. refl) (λ x. refl)

  send-line : (now : ℕ) (b : W) (u : Uart H W) → on_line (send_byte now b u).state ≡ on_line u
  unfolding send_byte sent dropped
  send-line now b u = choose-ind (λ (a : Access Write H W). on_line a.state ≡ on_line u) _ (λ _. refl) (λ _. refl)

-- whatever is written wherever, the byte on the line and its landing date are as settling leaves them: CLKDIV too gives it no new rate
pub write-leaves-line : (now : ℕ) (x : Written) (u : Uart ℕ ℕ) → number_of (step (Call.at now (Dated.write x)) u).answer.reply ≡ 0
    → on_line (step (Call.at now (Dated.write x)) u).state ≡ on_line (settle now (dated now u)).state
unfolding stepped plan plan_by replying carried date_of writing Calls.write send write_placed after_settling
write-leaves-line now x u done =
    let p : Register = register_of u.map.offsets x.offset in
    let v : Uart ℕ ℕ = (settle_at now u).state in
    ap (λ (s : Step ℕ ℕ ℕ). on_line s.state) (call-carried (Call.at now (Dated.write x)) u done)
    ∙ write-ind (λ q. on_line (carried (some now) (replying {L = ℕ} writes q) u).state ≡ on_line v) now p x.value u
    (λ _. concluded-line (send_byte now (x.value % 256) v) ∙ send-line now (x.value % 256) v)
    (λ _. concluded-line (write_register p x.value v) ∙ register-line x.value v p)

-- ---- a byte whose landing date has not come

-- the same byte still on the line
abbrev Stayed : {H W : Type 0} → ℕ → Uart H W → Uart H W → Type 0
Stayed {H} date u v = (l : OnTheLine H) → u.receiving ≡ some l → date < (line_of u).line_free_at → on_line v ≡ on_line u

module _ {H W : Type 0} (date : ℕ) where
  time_out-line : (s : Settings) (u : Uart H W) → on_line (timed_out s u).state ≡ on_line u
  unfolding timed_out time_out raise_if note_source
  time_out-line s u =
      ap (λ (d : ℕ). (u.receiving, d))
      (choose-ind (λ (l : Line). l.line_free_at ≡ (line_of u).line_free_at) (s.rx_tout_en && s.rx_sclk_en) (λ _. refl) (λ _. refl))

  pass-stayed : (s : Settings) (u : Uart H W) → Stayed date u (pass s date u).state
  unfolding pass pass_on in_frame nothing_due
  pass-stayed s u l e early =
      subst (λ (o : Option (OnTheLine H)). on_line (pass_on s date o u).state ≡ on_line u) (sym e)
      (choose-ind (λ (p : Pass H W). on_line p.state ≡ on_line u) _ (λ _. time_out-line s u)
      (λ _. choose-ind (λ (p : Pass H W). on_line p.state ≡ on_line u) _ (λ _. refl)
      (λ h. absurd (not-le_of_lt early (ltb-false date (line_of u).line_free_at h)))))

  stayed-on : (u v w : Uart H W) → Stayed date u v → Stayed date v w → Stayed date u w
  stayed-on u v w a b l e early =
      let q : on_line v ≡ on_line u = a l e early in
      b l (ap (λ (x : Option (OnTheLine H) × ℕ). x.0) q ∙ e)
      (subst (λ (d : ℕ). date < d) (sym (ap (λ (x : Option (OnTheLine H) × ℕ). x.1) q)) early) ∙ q

  settling-stayed : (u : Uart H W) → Stayed date u (settle_to date u).state
  unfolding settle_to leveled levels drive assert_levels raise_if passes depart leave tx_done
  settling-stayed u =
      passes_on (Stayed date) (settings_of u) date (λ v l e early. refl) stayed-on (pass-stayed (settings_of u)) _ true
      (depart date u)

stayed-walk : (now : ℕ) → Walk (some now) (Stayed (subcycles now))
unfolding levels drive assert_levels raise_if
stayed-walk now = record {
  on = stayed-on (subcycles now);
  alike = λ u v e l o early. ap (λ x. (x.1, x.2)) e;
  settling = λ now' same date h u l e early.
      settling-stayed date u l e (lt_of_le_of_lt (subst (λ (n : ℕ). date ≤ subcycles n) (sym (same_some same)) h) early);
  raising = λ u l e early. refl;
}

-- an undated call does not settle
kept-walk : Walk none (λ u v. on_line v ≡ on_line u)
unfolding levels drive assert_levels raise_if
kept-walk = record {
  on = λ u v w a b. b ∙ a;
  alike = λ u v e. ap (λ x. (x.1, x.2)) e;
  settling = λ now e. absurd (some-ne-none now (sym e));
  raising = λ u. refl;
}

-- whatever is called before its landing date, the byte on the line stays and lands when it would have: no write, no clock change
-- and no reset gives it a new rate
pub byte-keeps-its-date : (c : Request) (u : Uart ℕ ℕ) (l : OnTheLine ℕ) → u.receiving ≡ some l
    → ((now : ℕ) → date_of c ≡ some now → subcycles now < (line_of u).line_free_at)
    → on_line (step c u).state ≡ on_line u
unfolding clearing cleared cleared_line
byte-keeps-its-date c u l e early = by-date (date_of c) refl
  where
    by-date : (d : Option ℕ) → date_of c ≡ d → on_line (step c u).state ≡ on_line u
    by-date none is =
        every_call c u (λ u v. on_line v ≡ on_line u) (subst (λ d. Walk d (λ u v. on_line v ≡ on_line u)) (sym is) kept-walk)
        (λ now x _ _ v s. refl) (λ now _ s. refl)
    by-date (some now) is =
        every_call c u (Stayed (subcycles now)) (subst (λ d. Walk d (Stayed (subcycles now))) (sym is) (stayed-walk now))
        (λ now x _ _ v s l e early. refl) (λ now _ s l e early. refl) l e (early now is)

-- ---- no bit of INT_RAW falls but by INT_CLR and reset

-- every bit that is set in the first is set in the second
abbrev pub StaySet : Uart ℕ ℕ → Uart ℕ ℕ → Type 0
StaySet u v = (n : ℕ) → raw_bit n u ≡ true → raw_bit n v ≡ true

still-set : {x : Bool} (y : Bool) → x ≡ true → (x || y) ≡ true
still-set y e = ap (λ (b : Bool). b || y) e

set_walk : (d : Option ℕ) → Walk d StaySet
set_walk d = record {
  on = λ u v w a b n e. b n (a n e);
  alike = λ u v p n e. ap (λ x. bit n x.0) p ∙ e;
  settling = λ now _ date h u n e. settle_to-raises n date u ∙ still-set _ (still-set _ (still-set _ (still-set _ e)));
  raising = λ u n e. levels-raise n u ∙ still-set _ (still-set _ e);
}

-- RXFIFO_FULL and every other bit of INT_RAW, once set, falls only by a write to INT_CLR and by reset: no FIFO read lowers it
pub no-bit-falls : (c : Request) (u : Uart ℕ ℕ)
    → ((now : ℕ) (x : Written) → c ≡ Call.at now (Dated.write x) → ¬ (register_of u.map.offsets x.offset ≡ Register.int_clr))
    → ((now : ℕ) → ¬ (c ≡ Call.at now (Dated.machine Machine.reset))) → StaySet u (step c u).state
no-bit-falls c u a b = every_call c u StaySet (set_walk (date_of c)) (λ now x e h. absurd (a now x e h)) (λ now e. absurd (b now e))
