-- Reading one word more of a line. Assumes nothing.
use Rattle.std.specs.Prelude.{List, ℕ, ◌-◌, eqb, take, drop, Result, Ok}
use Rattle.text.specs.Pick.{pick}
use Rattle.text.specs.Words.{next_word}
use Rattle.text.specs.declared.words.Word.{Word}
use Rattle.trace.specs.declared.faults.Reason.{Reason}
use Rattle.trace.specs.declared.faults.Fault.{Fault}
use Rattle.trace.specs.declared.step.Step.{Step}

-- the bytes of a word
abbrev pub bytes_in : List ℕ → Word → List ℕ
bytes_in s w = take (w.end - w.start) (drop w.start s)

-- what is wrong with a word
abbrev pub fault : Reason → Word → Fault
fault reason w = record { reason = reason; start = w.start; end = w.end }

-- a word is missing: the fault is at the call's name
abbrev pub missing : List ℕ → Fault
missing s = fault Reason.MissingWord (next_word s 0)

-- how far a line was read, and what was read as a number
abbrev pub step_to : ℕ → ℕ → Result Step Fault
step_to at n = Ok (record { to = at; number = n })

-- the next word from a place on, read; where there is none, what stands for it
abbrev pub word_if : {A : Type 0} → Word → A → (Word → A) → A
word_if w none read = pick (eqb w.start w.end) none (read w)

unfoldable pub word_at : {A : Type 0} → List ℕ → ℕ → A → (Word → A) → A
word_at s at none read = word_if (next_word s at) none read
