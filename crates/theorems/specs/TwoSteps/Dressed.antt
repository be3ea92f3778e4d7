-- What is sent, the interrupt level and bits of INT_RAW that rise beforehand are nothing to the passes: they find the same, and
-- leave the same state with these as they were. Assumes nothing.
use Rattle.std.specs.Prelude.{◌≡◌, ℕ, ◌^◌, Bool, length}
use Rattle.std.proofs.Math.Path.{refl, ap}
use Rattle.std.proofs.Common.{sym, ◌∙◌}
use Rattle.std.proofs.Math.Option.{Option, none, some}
use mathlib.Core.List.{List, [], ◌∷◌}
use Rattle.std.specs.Int.Bits.{bit_or}
use Rattle.model.specs.State.{Sent, Run, OnTheLine, Uart, line_of}
use Rattle.model.specs.Setters.{uart_from, with_int_raw, with_line, with_level, with_line_free_at}
use Rattle.model.specs.Events.{Event}
use Rattle.model.specs.Line.{raise_if, note_source, opened, timeout_at, time_out, start, land}
use Rattle.model.specs.Settle.{Pass, nothing_due, timed_out, landed, in_frame, begun, before_start, idle, line_free, pass_on}
use Rattle.model.specs.Settle.{pass, passes}
use Rattle.model.proofs.Laws.Choose.{choose-nat}
use Rattle.model.proofs.Ends.Through.{Through, ends, goes, through, passes-are}
use Rattle.model.specs.declared.Line.{Line}
use Rattle.model.specs.declared.Frame.{Frame}
use Rattle.model.specs.declared.Settings.{Settings}
use Rattle.model.specs.declared.Fate.{Fate}
use Rattle.model.specs.declared.Fate.TheVariants.{Stored, Overflowed, Cleared, ClockOff, Unheard}

-- ---- a line on which bits rose beforehand

module _ (s : Settings) (raise : ℕ → ℕ) (free : (x n : ℕ) → raise (bit_or x n) ≡ bit_or (raise x) n) where
  abbrev raised : Line → Line
  raised l = with_int_raw (raise l.int_raw) l

  raise-raised : (t : Bool) (n : ℕ) (l : Line) → raise_if t n (raised l) ≡ raised (raise_if t n l)
  unfolding raise_if
  raise-raised t n l = ap (λ v. with_int_raw v l) (choose-nat raise t (sym (free l.int_raw (2 ^ n))) refl)

  time_out-raised : (held : ℕ) (l : Line) → time_out s held (raised l) ≡ raised (time_out s held l)
  unfolding time_out note_source
  time_out-raised held l = choose-nat raised _ (raise-raised _ _ _) refl

  start-raised : (at : ℕ) (l : Line) → start s at (raised l) ≡ raised (start s at l)
  unfolding start note_source
  start-raised at l = ap (with_line_free_at _) (choose-nat raised _ refl refl)

  land-raised : (f : Fate) (fr : Frame) (l : Line) → land s f fr (raised l) ≡ raised (land s f fr l)
  unfolding land opened note_source
  land-raised Stored fr l = refl
  land-raised Overflowed fr l = ap (λ (x : Line). opened fr x) (raise-raised _ _ l)
  land-raised Cleared fr l = refl
  land-raised ClockOff fr l = refl
  land-raised Unheard fr l = refl

-- ---- a state with other things sent, another level and more bits up

pub record Dress (W : Type 0) : Type 0 where
  pub flying : List (Sent W) → List (Sent W)
  pub sent : List (Sent W) → List W → List W
  pub level : Bool → Bool
  pub raise : List (Sent W) → ℕ → ℕ
  -- other rises are the same before it and after it
  pub free : (fl : List (Sent W)) (x n : ℕ) → raise fl (bit_or x n) ≡ bit_or (raise fl x) n

module _ {H W : Type 0} (d : Dress W) where
  abbrev outfit : Line → Uart H W → Uart H W
  outfit l u =
      uart_from u.map (with_level (d.level u.control.level) (with_line l u.control)) (d.flying u.in_flight)
      (d.sent u.in_flight u.tx) u.host u.host_runs u.receiving u.rx

  abbrev pub dressed : Uart H W → Uart H W
  dressed u = outfit (with_int_raw (d.raise u.in_flight (line_of u).int_raw) (line_of u)) u

  abbrev dressed_pass : Pass H W → Pass H W
  dressed_pass p = record { event = p.event; state = dressed p.state }

  module _ (s : Settings) (date : ℕ) where
    timed_out-dressed : (u : Uart H W) → timed_out s (dressed u) ≡ dressed_pass (timed_out s u)
    unfolding timed_out timeout_at
    timed_out-dressed u =
        ap (λ l. record { event = (timed_out s u).event; state = outfit l u })
        (time_out-raised s (d.raise u.in_flight) (d.free u.in_flight) (length u.rx) (line_of u))

    landed-dressed : (f : Fate) (l : OnTheLine H) (u : Uart H W) → landed s f l (dressed u) ≡ dressed_pass (landed s f l u)
    unfolding landed
    landed-dressed f l u =
        ap (λ k. record { event = (landed s f l u).event; state = outfit k (landed s f l u).state })
        (land-raised s (d.raise u.in_flight) (d.free u.in_flight) f l.frame (line_of u))

    begun-dressed : (at : ℕ) (b : H) (bs : List H) (u : Uart H W) → begun s at b bs (dressed u) ≡ dressed (begun s at b bs u)
    unfolding begun
    begun-dressed at b bs u =
        ap (λ l. outfit l (begun s at b bs u)) (start-raised s (d.raise u.in_flight) (d.free u.in_flight) at (line_of u))

    nothing-dressed : (u : Uart H W) → nothing_due date (dressed u) ≡ dressed_pass (nothing_due date u)
    unfolding nothing_due
    nothing-dressed u = refl

    in_frame-dressed : (l : OnTheLine H) (u : Uart H W) → in_frame s date l (dressed u) ≡ dressed_pass (in_frame s date l u)
    unfolding in_frame timeout_at
    in_frame-dressed l u =
        choose-nat dressed_pass _ (timed_out-dressed u) (choose-nat dressed_pass _ (nothing-dressed u) (landed-dressed _ l u))

    idle-dressed : (u : Uart H W) → idle s date (dressed u) ≡ dressed_pass (idle s date u)
    unfolding idle timeout_at
    idle-dressed u = choose-nat dressed_pass _ (timed_out-dressed u) (nothing-dressed u)

    begins-dressed : (at : ℕ) (b : H) (bs : List H) (l : OnTheLine H) (u : Uart H W)
        → in_frame s date l (begun s at b bs (dressed u)) ≡ dressed_pass (in_frame s date l (begun s at b bs u))
    begins-dressed at b bs l u = ap (in_frame s date l) (begun-dressed at b bs u) ∙ in_frame-dressed l (begun s at b bs u)

    before_start-dressed : (at : ℕ) (b : H) (bs : List H) (u : Uart H W)
        → before_start s date at b bs (dressed u) ≡ dressed_pass (before_start s date at b bs u)
    unfolding before_start timeout_at
    before_start-dressed at b bs u =
        choose-nat dressed_pass _ (timed_out-dressed u) (choose-nat dressed_pass _ (nothing-dressed u) (begins-dressed at b bs _ u))

    line_free-dressed : (rs : List Run) (bs : List H) (u : Uart H W)
        → line_free s date rs bs (dressed u) ≡ dressed_pass (line_free s date rs bs u)
    unfolding line_free
    line_free-dressed [] bs u = idle-dressed u
    line_free-dressed (r ∷ rs) [] u = idle-dressed u
    line_free-dressed (r ∷ rs) (b ∷ bs) u = before_start-dressed _ b bs u

    pass_on-dressed : (l : Option (OnTheLine H)) (u : Uart H W) → pass_on s date l (dressed u) ≡ dressed_pass (pass_on s date l u)
    unfolding pass_on
    pass_on-dressed none u = line_free-dressed _ _ u
    pass_on-dressed (some l) u = in_frame-dressed l u

    pass-dressed : (u : Uart H W) → pass s date (dressed u) ≡ dressed_pass (pass s date u)
    unfolding pass
    pass-dressed u = pass_on-dressed u.receiving u

    through-dressed : {u v : Uart H W} {es : List (Event H W)} → Through s date u es v → Through s date (dressed u) es (dressed v)
    through-dressed (ends {u = u} e g) = ends (pass-dressed u ∙ ap dressed_pass e) g
    through-dressed (goes {u = u} e g t) = goes (pass-dressed u ∙ ap dressed_pass e) g (through-dressed t)

    pub passes-dressed : (u : Uart H W)
        → passes s date (dressed u) ≡ record { state = dressed (passes s date u).state; events = (passes s date u).events }
    passes-dressed u = passes-are s date (through-dressed (through s date u))
