-- A line as a call. Assumes nothing.
use Rattle.std.specs.Prelude.{◌≡◌, Bool, true, false, List, [], ◌++◌, ℕ, ◌≤◌, eqb, length, get_or, drop}
use Rattle.std.specs.Prelude.{Result, Ok, Err, Option, Some, None}
use Rattle.std.proofs.Common.{arith}
use Rattle.text.specs.Pick.{pick}
use Rattle.text.specs.Words.{next_word}
use Rattle.text.specs.declared.words.Word.{Word}
use Rattle.trace.specs.declared.faults.Fault.{Fault}
use Rattle.trace.specs.declared.faults.Reason.{Reason}
use Rattle.trace.specs.declared.names.Name.{Name}
use Rattle.trace.specs.declared.step.Step.{Step}
use Rattle.trace.specs.declared.line.Call.{Call}
use Rattle.trace.specs.Names.{name_of}
use Rattle.trace.specs.Forms.{form_of, count_fits}
use Rattle.trace.specs.Steps.{bytes_in, fault, word_at}
use Rattle.trace.specs.Numbers.{numbers_at, numbers-few}
use Rattle.trace.specs.Stored.{stored, stored-front}
use Rattle.trace.specs.Last.{last_at, last_kept}

-- no word is left, and the call has its last one
abbrev pub extra : Word → Result Call Fault
extra w = Err (fault Reason.ExtraWord w)

unfoldable pub end_at : List ℕ → Name → ℕ → ℕ → Result Call Fault
end_at s name at last = word_at s at (Ok (record { name = name; last = last })) extra

-- after a step, from the place where it ended; a fault is the answer
abbrev pub after : {A B : Type 0} → Result A Fault → (A → Result B Fault) → Result B Fault
after (Ok a) next = next a
after (Err f) next = Err f

-- the words after a call's name: its numbers, its last word, and no word more
abbrev pub rest_at : ℕ → List ℕ → Name → ℕ → Result Call Fault
rest_at room s name at = after (last_at room s at name) (λ (last : Step). end_at s name last.to last.number)

abbrev pub words_at : ℕ → List ℕ → Name → ℕ → Result Call Fault
words_at room s name at = after (numbers_at s at name).end (rest_at room s name)

-- what a buffer holds after: where a number is a fault, no bytes were read
abbrev pub kept_after : List ℕ → Name → List ℕ → Result ℕ Fault → List ℕ
kept_after s name bytes (Ok at) = last_kept s at name bytes
kept_after s name bytes (Err f) = bytes

abbrev pub words_kept : List ℕ → Name → ℕ → List ℕ → List ℕ
words_kept s name at bytes = kept_after s name bytes (numbers_at s at name).end

-- a line's first word as a call's name; a blank line is passed over, and one that begins with `#`, which is 35
abbrev pub named_in : {A : Type 0} → List ℕ → A → (Word → Option Name → A) → Word → A
named_in s none read w = pick (eqb (get_or s 0 0) 35) none (read w (name_of (bytes_in s w)))

unfoldable pub on_call : {A : Type 0} → List ℕ → A → (Word → Option Name → A) → A
on_call s none read = word_at s 0 none (named_in s none read)

-- the line: a call; none, where it is blank or a comment; or what is wrong with it
abbrev pub Line : Type 0
Line = Result (Option Call) Fault

abbrev pub line_named : ℕ → List ℕ → Word → Option Name → Line
line_named room s w (Some name) = after (words_at room s name w.end) (λ (c : Call). Ok (Some c))
line_named room s w None = Err (fault Reason.UnknownName w)

abbrev pub line_of : ℕ → List ℕ → Line
line_of room s = on_call s (Ok None) (line_named room s)

-- its numbers, up to a fault
abbrev pub numbers_named : List ℕ → Word → Option Name → List ℕ
numbers_named s w (Some name) = (numbers_at s w.end name).values
numbers_named s w None = []

abbrev pub numbers_of : List ℕ → List ℕ
numbers_of s = on_call s [] (numbers_named s)

-- and what a buffer for its bytes holds after
abbrev pub bytes_named : List ℕ → List ℕ → Word → Option Name → List ℕ
bytes_named s bytes w (Some name) = words_kept s name w.end bytes
bytes_named s bytes w None = bytes

abbrev pub bytes_after : List ℕ → List ℕ → List ℕ
bytes_after s bytes = on_call s bytes (bytes_named s bytes)

-- ---- laws

-- what holds of each case holds of the answer
picked : {A : Type 0} (P : A → Type 0) (t : Bool) (a b : A) → P a → P b → P (pick t a b)
picked P true a b p q = p
picked P false a b p q = q

on_call-ind : {A : Type 0} (s : List ℕ) (none : A) (read : Word → Option Name → A) (P : A → Type 0)
    → P none → ((w : Word) (n : Option Name) → P (read w n)) → P (on_call s none read)
unfolding on_call word_at
on_call-ind s none read P p q =
    let w = next_word s 0 in
    let name = name_of (bytes_in s w) in
    picked P (eqb w.start w.end) none (named_in s none read w) p (picked P (eqb (get_or s 0 0) 35) none (read w name) p (q w name))

-- the numbers of a line have room in 32 places, at whose front they stand
few : (s : List ℕ) (w : Word) (n : Option Name) → length (numbers_named s w n) ≤ 32
few s w (Some name) =
    omega (arith, numbers-few s (form_of name).wide 0 (form_of name).count w.end, count_fits name)
few s w None = omega arith

pub numbers-front : (s to : List ℕ) → length to ≡ 32 → stored (numbers_of s) to ≡ numbers_of s ++ drop (length (numbers_of s)) to
numbers-front s to h =
    let room = on_call-ind s [] (numbers_named s) (λ (l : List ℕ). length l ≤ 32) (omega arith) (few s) in
    stored-front (numbers_of s) to (omega (arith, room))
