-- One number of a line. Assumes nothing.
use Rattle.std.specs.Prelude.{List, ℕ, Result, Err, Option, Some, None}
use Rattle.text.specs.declared.words.Word.{Word}
use Rattle.text.specs.Numbers.{limit32, number_of}
use Rattle.trace.specs.declared.faults.Fault.{Fault}
use Rattle.trace.specs.declared.faults.Reason.{Reason}
use Rattle.trace.specs.declared.step.Step.{Step}
use Rattle.trace.specs.declared.number.Kind.{Kind}
use Rattle.trace.specs.declared.number.Kind.TheVariants.{Wide, Narrow, Length}
use Rattle.trace.specs.Steps.{bytes_in, fault, missing, step_to, word_at}

-- the largest number of a kind
abbrev pub limit_of : Kind → ℕ
limit_of Wide = 18446744073709551615
limit_of Narrow = limit32
limit_of Length = 8192

-- what is wrong with a word that is none
abbrev pub reason_of : Kind → Reason
reason_of Wide = Reason.NoNumber
reason_of Narrow = Reason.NoNumber32
reason_of Length = Reason.NoLength

abbrev pub number_step : Kind → Word → Option ℕ → Result Step Fault
number_step kind w (Some n) = step_to w.end n
number_step kind w None = Err (fault (reason_of kind) w)

-- the next word as a number
abbrev pub number_in : List ℕ → Kind → Word → Result Step Fault
number_in s kind w = number_step kind w (number_of (limit_of kind) (bytes_in s w))

unfoldable pub number_at : List ℕ → ℕ → Kind → Result Step Fault
number_at s at kind = word_at s at (Err (missing s)) (number_in s kind)
