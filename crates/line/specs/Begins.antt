-- A pass in two steps: a start that is due comes, and then what is on the line is looked at. It is the same move, and a frame
-- stands in one place of the code. Assumes nothing.
use Rattle.std.specs.Prelude.{◌≡◌, ℕ, ◌<◌, ◌≤◌, Bool, ltb, Some, None}
use Rattle.std.proofs.Math.Path.{refl}
use Rattle.std.proofs.Common.{ap, sym, ◌∙◌}
use native.Mathlib.Omega.{arith}
use Rattle.std.proofs.Math.Bool.{true, false}
use borrow.Author.Tests.{ltb-true, ltb-false, leb-true, le-leb}
use Rattle.dates.specs.Dates.{later, earlier}
use Rattle.model.specs.Numbers.{choose, due_by}
use Rattle.model.specs.Line.{timeout_at, frame, start}
use Rattle.model.specs.Names.{Date}
use Rattle.model.specs.declared.Line.{Line}
use Rattle.model.specs.declared.Settings.{Settings}
use Rattle.line.specs.Names.{Receiving}
use Rattle.line.specs.declared.Move.{Move}
use Rattle.line.specs.declared.pass.FrameStart.{FrameStart}
use Rattle.line.specs.Moves
use Rattle.line.specs.Moves.{in_frame, before_start, idle, move}

-- no byte starts
abbrev pub kept : Receiving → Line → FrameStart
kept r l = record { receiving = r; started = false; line = l }

module _ (s : Settings) (date : ℕ) where
  -- a host byte waits for its start: it comes unless it is dated later, or a timeout is due by it
  unfoldable pub started : ℕ → Line → FrameStart
  started at l =
      choose (ltb date at) (kept None l)
      (choose (due_by at (timeout_at s l)) (kept None l)
      (record { receiving = Some (frame s); started = true; line = start s at l }))

  unfoldable pub line_free : Date → Line → FrameStart
  line_free None l = kept None l
  line_free (Some run) l = started (later run l.line_free_at) l

  unfoldable pub begun : Date → Receiving → Line → FrameStart
  begun waiting None l = line_free waiting l
  begun waiting (Some f) l = kept (Some f) l

  -- what the pass does then
  unfoldable pub move_on : ℕ → FrameStart → Receiving → Move
  move_on held b None = idle s held date b.line
  move_on held b (Some f) = in_frame s held date b.started f b.line

  due-later : (at : ℕ) (d : Date) → at ≤ date → due_by at d ≡ true → due_by date d ≡ true
  unfolding due_by
  due-later at None le h = h
  due-later at (Some t) le h = let b : t ≤ at = leb-true t at h in le-leb t date (omega arith)

  module _ (held at : ℕ) (l : Line) where
    -- by the test on the dates, and then by that on the timeout
    not_yet : ltb date at ≡ true → move_on held (started at l) (started at l).receiving ≡ before_start s held date at l
    unfolding move_on started before_start idle choose
    not_yet e =
        let t : date < at = ltb-true date at e in
        let m : earlier date at ≡ date = omega arith in
        rw (e, m)

    due : ltb date at ≡ false → (x : Bool) → due_by at (timeout_at s l) ≡ x
        → move_on held (started at l) (started at l).receiving ≡ before_start s held date at l
    unfolding move_on started before_start idle choose
    due e true d =
        let t : at ≤ date = ltb-false date at e in
        let m : earlier date at ≡ at = omega arith in
        rw (e, m, d, due-later at (timeout_at s l) t d)
    due e false d =
        let t : at ≤ date = ltb-false date at e in
        let m : earlier date at ≡ at = omega arith in
        rw (e, m, d)

    by-date : (x : Bool) → ltb date at ≡ x → move_on held (started at l) (started at l).receiving ≡ before_start s held date at l
    by-date true e = not_yet e
    by-date false e = due e (due_by at (timeout_at s l)) refl

  free_law : (held : ℕ) (waiting : Date) (l : Line)
      → move_on held (line_free waiting l) (line_free waiting l).receiving ≡ Moves.line_free s held date waiting l
  unfolding move_on line_free Moves.line_free
  free_law held None l = refl
  free_law held (Some run) l = by-date held (later run l.line_free_at) l (ltb date (later run l.line_free_at)) refl

  -- the two steps are the move
  pub begun-law : (held : ℕ) (waiting : Date) (r : Receiving) (l : Line)
      → move_on held (begun waiting r l) (begun waiting r l).receiving ≡ move s held date waiting r l
  unfolding begun move move_on
  begun-law held waiting None l = free_law held waiting l
  begun-law held waiting (Some f) l = refl

  -- the same, as the code comes to it
  pub moved : (held : ℕ) (waiting : Date) (r : Receiving) (l : Line) {x : Receiving} {b : FrameStart} {m : Move} → b ≡ begun waiting r l
      → b.receiving ≡ x → m ≡ move_on held b x
      → m ≡ move s held date waiting r l
  moved held waiting r l {b = b} eb ex em =
      em ∙ ap (move_on held b) (sym ex) ∙ ap (λ (y : FrameStart). move_on held y y.receiving) eb ∙ begun-law held waiting r l
