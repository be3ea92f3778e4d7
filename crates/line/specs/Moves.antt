-- What a pass does to the line's numbers and marks: the definition's pass without its bytes. Assumes nothing.
use Rattle.std.specs.Prelude.{ℕ, Bool, true, false, ltb, Some, None}
use Rattle.dates.specs.Dates.{later, earlier}
use Rattle.model.specs.Numbers.{choose, due_by}
use Rattle.model.specs.Line.{timeout_at, time_out, frame, start, fate, land}
use Rattle.model.specs.Names.{Date}
use Rattle.model.specs.declared.Line.{Line}
use Rattle.model.specs.declared.Frame.{Frame}
use Rattle.model.specs.declared.Settings.{Settings}
use Rattle.line.specs.declared.Found.{Found}
use Rattle.line.specs.Names.{Receiving}
use Rattle.line.specs.declared.Move.{Move}

unfoldable pub resting : Bool → Receiving → Line → Move
resting started r l = record { line = l; receiving = r; found = Found.NothingDue; started = started }

module _ (s : Settings) (held : ℕ) where
  unfoldable pub timing_out : Bool → Receiving → Line → Move
  timing_out started r l = record { line = time_out s held l; receiving = r; found = Found.TimedOut; started = started }

  unfoldable pub landing : Bool → Frame → Line → Move
  landing started f l =
      record { line = land s (fate s held f) f l; receiving = None; found = Found.Landed (fate s held f); started = started }

  unfoldable pub in_frame : ℕ → Bool → Frame → Line → Move
  in_frame date started f l =
      choose (due_by date (timeout_at s l)) (timing_out started (Some f) l)
      (choose (ltb date l.line_free_at) (resting started (Some f) l) (landing started f l))

  unfoldable pub before_start : ℕ → ℕ → Line → Move
  before_start date at l =
      choose (due_by (earlier date at) (timeout_at s l)) (timing_out false None l)
      (choose (ltb date at) (resting false None l) (in_frame date true (frame s) (start s at l)))

  unfoldable pub idle : ℕ → Line → Move
  idle date l = choose (due_by date (timeout_at s l)) (timing_out false None l) (resting false None l)

  -- the line is free: the date of the first run, if a host byte waits
  unfoldable pub line_free : ℕ → Date → Line → Move
  line_free date None l = idle date l
  line_free date (Some run) l = before_start date (later run l.line_free_at) l

  unfoldable pub move : ℕ → Date → Receiving → Line → Move
  move date waiting None l = line_free date waiting l
  move date waiting (Some f) l = in_frame date false f l
