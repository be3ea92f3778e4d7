-- With the receiver's clock off the passes raise nothing and note no source, and the idle line closes where its timeout is due:
-- so passes to an earlier date and then to a later one leave what passes to the later leave, though a timeout and a landing may
-- change places. Assumes nothing.
use Rattle.std.specs.Prelude.{◌≡◌, refl, ℕ, ◌≤◌, Bool, true, false, ◌&&◌, List, Some, None}
use Rattle.std.proofs.Math.Path.{sym, ap, subst}
use Rattle.std.proofs.Common.{◌∙◌}
use Rattle.std.proofs.lemmas.Bool.{lt-leb}
use Rattle.model.specs.Numbers.{choose, due_by}
use Rattle.model.specs.State.{Uart, line_of}
use Rattle.model.specs.Setters.{with_idle_since, with_line_free_at, with_line_of}
use Rattle.model.specs.Events.{Event}
use Rattle.model.specs.Line.{after_date, timeout_at, time_out, start, fate, land}
use Rattle.model.specs.Settle.{Pass, nothing_due, timed_out, landed, begun, pass, passes}
use Rattle.model.proofs.Laws.Choose.{choose-ind, choose-true, choose-false}
use Rattle.model.proofs.Laws.Cases.{KeptOnLine, pass-cases, passes-ind}
use Rattle.model.proofs.Ends.Passes.{After, time_out-closes}
use Rattle.model.proofs.Ends.Through.{Through, ends, goes, through, through-quiet}
use Rattle.theorems.specs.TwoSteps.Later.{due-later}
use Rattle.theorems.specs.TwoSteps.Bare.{bare}
use Rattle.theorems.specs.TwoSteps.Moves.{passes-bare}
use Rattle.model.specs.Names.{Date}
use Rattle.model.specs.declared.Line.{Line}
use Rattle.model.specs.declared.Frame.{Frame}
use Rattle.model.specs.declared.Settings.{Settings}
use Rattle.model.specs.declared.Fate.{Fate}

-- ---- the idle line after passes to a date

idle_after : Settings → ℕ → Date → Date
idle_after s date d = choose (due_by date (after_date s.timeout_time d)) None d

idle-stays : (s : Settings) (date : ℕ) (d : Date) → After date (after_date s.timeout_time d) → d ≡ idle_after s date d
unfolding idle_after after_date due_by choose
idle-stays s date None h = refl
idle-stays s date (Some t) h = sym (choose-false None (Some t) (lt-leb _ date h))

idle-twice : (s : Settings) (a b : ℕ) (d : Date) → a ≤ b → idle_after s b (idle_after s a d) ≡ idle_after s b d
unfolding idle_after due_by after_date choose
idle-twice s a b d le =
    choose-ind (λ (x : Date). idle_after s b x ≡ idle_after s b d) (due_by a (after_date s.timeout_time d)) {x = None} {y = d}
    (λ t. sym (choose-true None d (due-later (after_date s.timeout_time d) le t))) (λ _. refl)

-- ---- a line whose receiver has no clock

and-off : (x y : Bool) → y ≡ false → (x && y) ≡ false
and-off true y e = e
and-off false y e = refl

module _ (s : Settings) (off : s.rx_sclk_en ≡ false) where
  time_out-off : (held : ℕ) (l : Line) → time_out s held l ≡ with_idle_since None l
  unfolding time_out
  time_out-off held l = choose-false _ _ (and-off s.rx_tout_en s.rx_sclk_en off)

  land-off : (held : ℕ) (fr : Frame) (l : Line) → land s (fate s held fr) fr l ≡ l
  unfolding fate land
  land-off held fr l =
      choose-ind (λ (f : Fate). land s f fr l ≡ l) _
      (λ _. subst (λ (f : Fate). land s f fr l ≡ l) (sym (choose-false _ _ off)) refl) (λ _. refl)

  start-off : (at : ℕ) (l : Line) → start s at l ≡ with_line_free_at (start s at l).line_free_at l
  unfolding start
  start-off at l = ap (with_line_free_at _) (choose-false _ _ off)

module _ {H W : Type 0} (s : Settings) (off : s.rx_sclk_en ≡ false) where
  -- no bit rises and no source is noted
  record Unmarked (u v : Uart H W) : Type 0 where
    raw : (line_of v).int_raw ≡ (line_of u).int_raw
    source : (line_of v).rx_mistimed ≡ (line_of u).rx_mistimed

  unmarked-kept : (u : Uart H W) → KeptOnLine s (Unmarked u)
  unfolding timed_out landed begun
  unmarked-kept u = record {
    timeout = λ v p. record {
      raw = ap (λ (x : Line). x.int_raw) (time_out-off s off _ (line_of v)) ∙ p.raw;
      source = ap (λ (x : Line). x.rx_mistimed) (time_out-off s off _ (line_of v)) ∙ p.source;
    };
    landing = λ l v p. record {
      raw = ap (λ (x : Line). x.int_raw) (land-off s off _ l.frame (line_of v)) ∙ p.raw;
      source = ap (λ (x : Line). x.rx_mistimed) (land-off s off _ l.frame (line_of v)) ∙ p.source;
    };
    start = λ at b bs v e h p. record {
      raw = ap (λ (x : Line). x.int_raw) (start-off s off at (line_of v)) ∙ p.raw;
      source = ap (λ (x : Line). x.rx_mistimed) (start-off s off at (line_of v)) ∙ p.source;
    };
  }

  unmarked : (date : ℕ) (u : Uart H W) → Unmarked u (passes s date u).state
  unmarked date u = passes-ind s (Unmarked u) (unmarked-kept u) date u (record { raw = refl; source = refl })

  -- ---- the idle line

  abbrev IdleKept : ℕ → Uart H W → Pass H W → Type 0
  IdleKept date u p = idle_after s date (line_of p.state).idle_since ≡ idle_after s date (line_of u).idle_since

  pass-idle : (date : ℕ) (u : Uart H W) → IdleKept date u (pass s date u)
  unfolding timed_out nothing_due landed begun timeout_at idle_after after_date due_by choose
  pass-idle date =
      pass-cases s date (IdleKept date)
      (λ u t. ap (idle_after s date) (time_out-closes s _ (line_of u)) ∙ sym (choose-true _ _ t))
      (λ u. refl)
      (λ u l e. ap (λ (x : Line). idle_after s date x.idle_since) (land-off s off _ l.frame (line_of u)))
      (λ u r rs b bs p e _ h q. q ∙ ap (λ (x : Line). idle_after s date x.idle_since) (start-off s off _ (line_of u)))

  through-idle : (date : ℕ) {u v : Uart H W} {es : List (Event H W)} → Through s date u es v
      → (line_of v).idle_since ≡ idle_after s date (line_of u).idle_since
  unfolding timeout_at
  through-idle date (ends {u = u} {v = v} e g) =
      idle-stays s date (line_of v).idle_since (through-quiet s date (ends e g)).timeout ∙ subst (IdleKept date u) e (pass-idle date u)
  through-idle date (goes {u = u} e g t) = through-idle date t ∙ subst (IdleKept date u) e (pass-idle date u)

  passes-idle : (date : ℕ) (u : Uart H W) → (line_of (passes s date u).state).idle_since ≡ idle_after s date (line_of u).idle_since
  passes-idle date u = through-idle date (through s date u)

  -- ---- the whole state

  -- two states that agree but for the line's marks, and in these
  bare-path : (u v : Uart H W) → bare u ≡ bare v → (line_of u).int_raw ≡ (line_of v).int_raw
      → (line_of u).rx_mistimed ≡ (line_of v).rx_mistimed → (line_of u).idle_since ≡ (line_of v).idle_since → u ≡ v
  bare-path u v e raw source idle =
      λ i. with_line_of (record {
        int_raw = raw i;
        rx_mistimed = source i;
        idle_since = idle i;
        line_free_at = (line_of (e i)).line_free_at;
      }) (e i)

  pub passes-off : (a b : ℕ) (u : Uart H W) → a ≤ b → (passes s b (passes s a u).state).state ≡ (passes s b u).state
  passes-off a b u le =
      let v = (passes s a u).state in
      bare-path _ _ (passes-bare s a b le u).1
      ((unmarked b v).raw ∙ (unmarked a u).raw ∙ sym (unmarked b u).raw)
      ((unmarked b v).source ∙ (unmarked a u).source ∙ sym (unmarked b u).source)
      (passes-idle b v ∙ ap (idle_after s b) (passes-idle a u) ∙ idle-twice s a b _ le ∙ sym (passes-idle b u))
