-- With no idle line open beside a byte on the line, a pass that finds something at a date finds the same at any later date. So
-- with the receiver's clock on, passes to an earlier date and then to a later one leave what passes to the later leave.
-- Assumes nothing.
use Rattle.std.specs.Prelude.{◌≡◌, ℕ, ◌≤◌, Bool, true, false, Some, None}
use Rattle.std.proofs.Math.Path.{refl, sym}
use Rattle.std.proofs.Common.{ap, subst, ◌∙◌}
use native.Mathlib.Omega.{arith}
use Rattle.std.proofs.lemmas.Bool.{false≢true}
use Rattle.std.proofs.Math.Option.{Option, none, some}
use mathlib.Core.List.{List, [], ◌∷◌}
use borrow.Author.Tests.{ltb-false, le-ltb, leb-true, le-leb}
use Rattle.dates.specs.Dates.{earlier}
use Rattle.model.specs.Numbers.{due_by}
use Rattle.model.specs.State.{Run, OnTheLine, Uart, line_of}
use Rattle.model.specs.Events.{Event, goes_on}
use Rattle.model.specs.Line.{note_source, after_date, timeout_at, start}
use Rattle.model.specs.Settle.{Pass, nothing_due, timed_out, landed, in_frame, begun, before_start, idle, line_free, pass_on, pass, passes}
use Rattle.model.proofs.Laws.Choose.{choose-ind, choose-true, choose-false}
use Rattle.model.proofs.Laws.Cases.{KeptOnLine, pass-ind}
use Rattle.model.proofs.Ends.Passes.{apart, time_out-closes}
use Rattle.model.proofs.Ends.Through.{Through, ends, goes, through, passes-are, passes_go}
use Rattle.model.specs.Names.{Date}
use Rattle.model.specs.declared.Line.{Line}
use Rattle.model.specs.declared.Settings.{Settings}

-- ---- dates and the idle line

pub due-later : {x y : ℕ} (d : Date) → x ≤ y → due_by x d ≡ true → due_by y d ≡ true
unfolding due_by
due-later None le h = h
due-later {x} {y} (Some t) le h = le-leb t y (omega (arith, leb-true t x h))

abbrev pub Closed : Line → Type 0
Closed l = l.idle_since ≡ None

pub closed-due : (s : Settings) (date : ℕ) (l : Line) → Closed l → due_by date (timeout_at s l) ≡ false
unfolding timeout_at after_date due_by
closed-due s date l e = ap (λ d. due_by date (after_date s.timeout_time d)) e

start-closes : (s : Settings) (at : ℕ) (l : Line) → s.rx_sclk_en ≡ true → Closed (start s at l)
unfolding start note_source
start-closes s at l on = ap (λ (x : Line). x.idle_since) (choose-true _ _ on)

-- a start does not open it
pub start-closed : (s : Settings) (at : ℕ) (l : Line) → Closed l → Closed (start s at l)
unfolding start note_source
start-closed s at l e = choose-ind Closed s.rx_sclk_en (λ _. refl) (λ _. e)

-- ---- one pass

module _ {H W : Type 0} (s : Settings) where
  -- no idle line is open beside a byte on the line
  abbrev pub Alone : Uart H W → Type 0
  Alone u = (l : OnTheLine H) → u.receiving ≡ some l → Closed (line_of u)

  -- nor beside one that starts now
  pub record Shut (u : Uart H W) : Type 0 where
    pub alone : Alone u
    pub starts : (at : ℕ) → Closed (start s at (line_of u))

  module _ (a b : ℕ) (le : a ≤ b) where
    -- what a pass `p` at `a` says of one at `b`: if it found something due, that is the same pass; else it left as much to do
    abbrev pub Follows : Uart H W → Pass H W → Bool → Type 0
    Follows u p true = pass s b u ≡ p
    Follows u p false = pass s b p.state ≡ pass s b u

    abbrev pub Later : Uart H W → Pass H W → Type 0
    Later u p = Follows u p (goes_on p.event)

    module _ (u : Uart H W) where
      in_frame-later : (v : Uart H W) (l : OnTheLine H) → Closed (line_of v) → pass s b u ≡ in_frame s b l v → pass s b v ≡ in_frame s b l v
          → Later u (in_frame s a l v)
      unfolding in_frame nothing_due landed goes_on
      in_frame-later v l i hu hv =
          choose-ind (Later u) _ (λ t. absurd (false≢true (sym (closed-due s a (line_of v) i) ∙ t)))
          (λ _. choose-ind (Later u) _ (λ _. hv ∙ sym hu)
          (λ f. hu ∙ choose-false _ _ (closed-due s b (line_of v) i) ∙ choose-false _ _ (le-ltb b _ (omega (arith, ltb-false a _ f)))))

      idle-later : pass s b u ≡ idle s b u → Later u (idle s a u)
      unfolding idle timed_out nothing_due goes_on
      idle-later hu = choose-ind (Later u) _ (λ t. hu ∙ choose-true _ _ (due-later _ le t)) (λ _. refl)

      module _ (shut : Shut u) where
        before_start-later : (at : ℕ) (c : H) (cs : List H) → pass s b u ≡ before_start s b at c cs u → Later u (before_start s a at c cs u)
        unfolding before_start timed_out nothing_due begun pass pass_on goes_on
        before_start-later at c cs hu =
            choose-ind (Later u) _ (λ t. hu ∙ choose-true _ _ (due-later {x = earlier a at} {y = earlier b at} _ (omega arith) t))
            (λ t. choose-ind (Later u) _ (λ _. refl)
            (λ f. let due : at ≤ a = ltb-false a at f in
            let same : earlier a at ≡ earlier b at = omega arith in
            in_frame-later (begun s at c cs u) _ (shut.starts at)
            (hu ∙ choose-false _ _ (subst (λ (x : ℕ). due_by x (timeout_at s (line_of u)) ≡ false) same t)
            ∙ choose-false _ _ (le-ltb b at (omega arith)))
            refl))

        line_free-later : (rs : List Run) (cs : List H) → pass s b u ≡ line_free s b rs cs u → Later u (line_free s a rs cs u)
        unfolding line_free
        line_free-later [] cs hu = idle-later hu
        line_free-later (r ∷ rs) [] hu = idle-later hu
        line_free-later (r ∷ rs) (c ∷ cs) hu = before_start-later _ c cs hu

        pass_on-later : (l : Option (OnTheLine H)) → u.receiving ≡ l → pass s b u ≡ pass_on s b l u → Later u (pass_on s a l u)
        unfolding pass_on
        pass_on-later none e hu = line_free-later _ _ hu
        pass_on-later (some l) e hu = in_frame-later u l (shut.alone l e) hu hu

        pub pass-later : Later u (pass s a u)
        unfolding pass
        pass-later = pass_on-later u.receiving refl refl

    -- ---- all passes

    again : {u v w : Uart H W} {es : List (Event H W)} → pass s b v ≡ pass s b u → Through s b v es w → Through s b u es w
    again h (ends e g) = ends (sym h ∙ e) g
    again h (goes e g t) = goes (sym h ∙ e) g t

    -- where the first pass is the same, all are
    same_first : (u v : Uart H W) → pass s b v ≡ pass s b u → passes s b v ≡ passes s b u
    same_first u v h = sym (passes-are s b (again h (through s b v)))

    module _ (on : s.rx_sclk_en ≡ true) where
      alone-kept : KeptOnLine s Alone
      unfolding timed_out landed begun
      alone-kept = record {
        timeout = λ u p l e. time_out-closes s _ _;
        landing = λ k u p l e. apart (cc);
        start = λ at b bs u e h p l e'. start-closes s at (line_of u) on;
      }

      follows : (u : Uart H W) {v : Uart H W} {e : Event H W} {go : Bool} → Alone u → pass s a u ≡ record { event = e; state = v }
          → goes_on e ≡ go → Follows u (record { event = e; state = v }) go
      follows u o p g =
          subst (Follows u _) g (subst (Later u) p (pass-later u (record { alone = o; starts = λ at. start-closes s at (line_of u) on })))

      through-later : {u v : Uart H W} {es : List (Event H W)} → Alone u → Through s a u es v → (passes s b v).state ≡ (passes s b u).state
      through-later o (ends {u = u} {v = v} e g) = ap (λ t. t.state) (same_first u v (follows u o e g))
      through-later o (goes {u = u} e g t) =
          through-later (subst (λ (p : Pass H W). Alone p.state) e (pass-ind s Alone alone-kept a u o)) t
          ∙ sym (ap (λ t. t.state) (passes_go s b u (follows u o e g) g))

      pub passes-later : (u : Uart H W) → Alone u → (passes s b (passes s a u).state).state ≡ (passes s b u).state
      passes-later u o = through-later o (through s a u)
