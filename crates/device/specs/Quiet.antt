-- Where nothing is due on the line by a date, whatever the settings, one pass finds nothing and changes nothing. Assumes nothing.
use Rattle.std.specs.Prelude.{◌≡◌, refl, Bool, true, false, ℕ, ltb, get_or, List, Some, None}
use Rattle.std.proofs.Common.{ap, ◌∙◌}
use Rattle.dates.specs.Dates.{later, earlier}
use Rattle.model.specs.State
use Rattle.model.specs.Numbers.{due_by}
use Rattle.model.proofs.Laws.Choose.{choose-true, choose-false}
use Rattle.model.specs.Line.{timeout_at, after_date}
use Rattle.model.specs.Settle.{pass}
use Rattle.model.specs.Names.{Date}
use Rattle.model.specs.declared.Line.{Line}
use Rattle.model.specs.declared.Settings.{Settings}
use Rattle.line.specs.declared.Found.{Found}
use Rattle.line.specs.Names.{Receiving}
use Rattle.line.specs.Seen.{Seen, seen}
use Rattle.line.specs.Moves.{resting, in_frame, before_start, idle, line_free, move}
use Rattle.line.specs.Applied.{line_byte, subject, marked, stored_into, drop_if, pop_run_if, applied, pass-applied}
use Rattle.device.specs.Never.{never}
use Rattle.device.specs.Holds.{on_the_line}
use Rattle.device.specs.Waits.{waiting_at}
use Rattle.device.specs.Receives.{Fit, with}
use Rattle.device.specs.Carries.{mark_of, waiting-of}
use Rattle.device.specs.declared.pass.Reception.{Reception}
use Rattle.device.specs.Ends.{Ends}
use Rattle.device.specs.Rounds.{ran_first, ran-end}

unfoldable pub starts_later : Date → ℕ → ℕ → Bool
starts_later None free date = true
starts_later (Some run) free date = ltb date (later run free)

unfoldable pub comes_later : Receiving → Date → ℕ → ℕ → Bool
comes_later None waits free date = starts_later waits free date
comes_later (Some f) waits free date = ltb date free

unfoldable pub quiet : Date → Receiving → Date → ℕ → ℕ → Bool
quiet None r waits free date = comes_later r waits free date
quiet (Some d) r waits free date = false

module _ (s : Settings) (held : ℕ) (l : Line) (closed : l.idle_since ≡ None) where
  not-due : (date : ℕ) → due_by date (timeout_at s l) ≡ false
  unfolding timeout_at after_date due_by
  not-due date = rw closed

  rests : (date : ℕ) (waits : Date) (r : Receiving) → comes_later r waits l.line_free_at date ≡ true
      → move s held date waits r l ≡ resting false r l
  unfolding comes_later starts_later move line_free idle before_start in_frame
  rests date None None e = choose-false _ _ (not-due date)
  rests date (Some run) None e = choose-false _ _ (not-due (earlier date (later run l.line_free_at))) ∙ choose-true _ _ e
  rests date None (Some f) e = choose-false _ _ (not-due date) ∙ choose-true _ _ e
  rests date (Some run) (Some f) e = choose-false _ _ (not-due date) ∙ choose-true _ _ e

quiet-rests : (s : Settings) (held : ℕ) (l : Line) (since : Date) → l.idle_since ≡ since → (date : ℕ) (waits : Date) (r : Receiving)
    → quiet since r waits l.line_free_at date ≡ true → move s held date waits r l ≡ resting false r l
unfolding quiet
quiet-rests s held l None c date waits r e = rests s held l c date waits r e
quiet-rests s held l (Some d) c date waits r e = never e

marked-line : (r : Receiving) (b : ℕ) → marked r (line_byte (on_the_line r b)) ≡ on_the_line r b
unfolding marked line_byte on_the_line
marked-line None b = refl
marked-line (Some f) b = refl

module _ (s : Settings) (date : ℕ) (at : Reception) (hosts dates counts rxs : List ℕ) (fit : Fit at hosts dates counts rxs) where
  abbrev waits : Date
  waits = waiting_at at.host.count at.runs.count (get_or dates at.runs.start 0)

  rest-applied : (u : State.Uart ℕ ℕ)
      → ◌≡◌ {A = Seen ℕ ℕ} (applied (with at hosts dates counts rxs u) (resting false at.receiving at.line))
      (record { found = Found.NothingDue; state = with at hosts dates counts rxs u })
  unfolding applied resting subject drop_if pop_run_if stored_into
  rest-applied u = rw (marked-line at.receiving at.byte)

  module _ (e : quiet at.line.idle_since at.receiving waits at.line.line_free_at date ≡ true) where
    quiet_pass : (u : State.Uart ℕ ℕ)
        → ◌≡◌ {A = Seen ℕ ℕ} (seen (pass s date (with at hosts dates counts rxs u)))
        (record { found = Found.NothingDue; state = with at hosts dates counts rxs u })
    quiet_pass u =
        pass-applied s date (with at hosts dates counts rxs u)
        ∙ ap (applied (with at hosts dates counts rxs u))
        (rw (waiting-of hosts dates counts at.host at.runs fit.host fit.runs, mark_of at.receiving at.byte)
        (quiet-rests s _ at.line at.line.idle_since refl date waits at.receiving e))
        ∙ rest-applied u

    pub quiet-ends : Ends s date at hosts dates counts rxs at counts rxs 1 0
    quiet-ends =
        record { fit = fit; all = λ u. ran-end s date (ran_first s date (with at hosts dates counts rxs u)) (quiet_pass u) refl refl }
