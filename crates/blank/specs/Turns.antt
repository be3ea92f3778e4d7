-- What a turn of the program does with a line. Assumes nothing.
use Rattle.std.specs.Prelude.{◌≡◌, true, false, List, ◌⊎◌, ℕ, min, length, take}
use Rattle.text.specs.Output.{Put}
use Rattle.text.specs.Input.{has_line}
use Rattle.text.specs.declared.input.Input.{Input}
use Rattle.blanking.specs.Lines.{begun, blanked_text, trace_after}
use Rattle.blanking.specs.declared.line.Trace.{Trace}
use Rattle.streams.specs.Outputs.{KeepsUp}
use Rattle.streams.specs.declared.output.Output.{Output}
use Rattle.blank.specs.declared.input.Session.{Session}

-- filled further than this, the output is written first; the text of a line then fits behind
abbrev pub full : ℕ
full = 65408

-- no line has come, and nothing is put out
abbrev pub started : Session
started = record { trace = begun; output = record { at = 0; failed = false } }

-- the line that stands at the front of a buffer
abbrev pub line_in : List ℕ → Input → List ℕ
line_in line i = take (min i.len (length line)) line

-- the output is kept up; where a line stands there and no write failed, its blanked text is put out, and nothing else ever is
pub data Turn (s : Session) (i : Input) (line out : List ℕ) : List ℕ → Session → Type 0 where
  passed : {k : Output} → KeepsUp (has_line i) full s.output k → (has_line i ≡ false) ⊎ (k.failed ≡ true)
      → Turn s i line out out (record { trace = s.trace; output = k })
  blanked : {k : Output} {after : List ℕ} {at : ℕ} {t : Trace} → KeepsUp (has_line i) full s.output k → has_line i ≡ true
      → k.failed ≡ false
      → Put (blanked_text s.trace i.long (line_in line i)) out k.at after at → t ≡ trace_after s.trace i.long (line_in line i)
      → Turn s i line out after (record { trace = t; output = record { at = at; failed = false } })
