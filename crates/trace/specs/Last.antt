-- The last word of a call. Assumes nothing.
use Rattle.std.specs.Prelude.{List, [], ◌∷◌, ℕ, Result, Ok, Err}
use Rattle.text.specs.Pick.{pick}
use Rattle.text.specs.Same.{same_bytes}
use Rattle.text.specs.declared.words.Word.{Word}
use Rattle.text.specs.Hexes.{bytes_read, bytes_stored}
use Rattle.text.specs.declared.hex.NotBytes.{NotBytes}
use Rattle.trace.specs.declared.faults.Fault.{Fault}
use Rattle.trace.specs.declared.faults.Reason.{Reason}
use Rattle.trace.specs.declared.arguments.Last.{Last}
use Rattle.trace.specs.declared.names.Name.{Name}
use Rattle.trace.specs.declared.step.Step.{Step}
use Rattle.trace.specs.declared.number.Kind.{Kind}
use Rattle.trace.specs.Forms.{form_of}
use Rattle.trace.specs.Steps.{bytes_in, fault, missing, step_to, word_at}
use Rattle.trace.specs.One.{number_at}
use Rattle.trace.specs.Pairs.{pairs_at}

-- `0` is 48, `1` is 49
abbrev pub bit_in : List ℕ → Word → Result Step Fault
bit_in s w =
    pick (same_bytes (bytes_in s w) (48 ∷ [])) (step_to w.end 0)
    (pick (same_bytes (bytes_in s w) (49 ∷ [])) (step_to w.end 1) (Err (fault Reason.NoBit w)))

unfoldable pub bit_at : List ℕ → ℕ → Result Step Fault
bit_at s at = word_at s at (Err (missing s)) (bit_in s)

-- bytes, for which a buffer has room; the number is how many
abbrev pub bytes_step : Word → Result ℕ NotBytes → Result Step Fault
bytes_step w (Ok n) = step_to w.end n
bytes_step w (Err e) = Err (fault Reason.NoBytes w)

abbrev pub bytes_step_in : ℕ → List ℕ → Word → Result Step Fault
bytes_step_in room s w = bytes_step w (bytes_read room (bytes_in s w))

unfoldable pub bytes_at : ℕ → List ℕ → ℕ → Result Step Fault
bytes_at room s at = word_at s at (Err (missing s)) (bytes_step_in room s)

-- and what the buffer holds after
abbrev pub bytes_kept_in : List ℕ → List ℕ → Word → List ℕ
bytes_kept_in s bytes w = bytes_stored (bytes_in s w) bytes

unfoldable pub bytes_kept : List ℕ → ℕ → List ℕ → List ℕ
bytes_kept s at bytes = word_at s at bytes (bytes_kept_in s bytes)

-- the last word by its kind
abbrev pub kind_step : ℕ → List ℕ → ℕ → Last → Result Step Fault
kind_step room s at Last.None = step_to at 0
kind_step room s at Last.Bit = bit_at s at
kind_step room s at Last.Length = number_at s at Kind.Length
kind_step room s at Last.Bytes = bytes_at room s at
kind_step room s at Last.Pairs = (pairs_at s at).step

abbrev pub last_at : ℕ → List ℕ → ℕ → Name → Result Step Fault
last_at room s at name = kind_step room s at (form_of name).last

-- only bytes change the buffer
abbrev pub kind_kept : List ℕ → ℕ → List ℕ → Last → List ℕ
kind_kept s at bytes Last.None = bytes
kind_kept s at bytes Last.Bit = bytes
kind_kept s at bytes Last.Length = bytes
kind_kept s at bytes Last.Bytes = bytes_kept s at bytes
kind_kept s at bytes Last.Pairs = bytes

abbrev pub last_kept : List ℕ → ℕ → Name → List ℕ → List ℕ
last_kept s at name bytes = kind_kept s at bytes (form_of name).last
