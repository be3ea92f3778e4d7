-- When two lists of calls are alike, and how their bytes are numbered: what a reader of demand 3 must believe. Assumes nothing.
use Rattle.std.specs.Prelude.{◌≡◌, ℕ, ◌%◌, eqb, length, get_or}
use mathlib.Core.List.{List, [], ◌∷◌, flat_map}
use Rattle.model.specs.Numbers.{choose}
use Rattle.model.specs.Call.{Dated, Undated, Call, Request, Asked, Ask, given, host_of}

-- ---- alike

-- two lists of one length, element by element
pub data Each {A B : Type 0} (R : A → B → Type 0) : List A → List B → Type 0 where
  nil : Each R [] []
  cons : {a : A} {b : B} {l : List A} {m : List B} → R a b → Each R l m → Each R (a ∷ l) (b ∷ m)

-- the register map's FIFO offset is its first
abbrev pub fifo_offset : List ℕ → ℕ
fifo_offset offsets = get_or offsets 0 0

-- two calls that differ at most in the values of host bytes, in all 32 bits of a word written to FIFO, or in the contents
-- of a lent buffer
pub data Alike (fifo : ℕ) : Request → Request → Type 0 where
  same : {c : Request} → Alike fifo c c
  host_bytes : {now at : ℕ} {bs bs' : List ℕ} → length bs ≡ length bs'
      → Alike fifo (Call.at now (Dated.receive at bs)) (Call.at now (Dated.receive at bs'))
  fifo_word : {now v v' : ℕ} → Alike fifo (Call.at now (Dated.write (record { offset = fifo; value = v })))
      (Call.at now (Dated.write (record { offset = fifo; value = v' })))
  lent_to_take_tx : {now : ℕ} {lent lent' : List ℕ} → length lent ≡ length lent'
      → Alike fifo (Call.at now (Dated.take_tx lent)) (Call.at now (Dated.take_tx lent'))
  lent_to_take_written : {lent lent' : List ℕ} → length lent ≡ length lent'
      → Alike fifo (Call.undated (Undated.take_written lent)) (Call.undated (Undated.take_written lent'))

-- two that are asked for: calls of which R holds, or rows that differ at most in the values of their bytes
pub data AskedAlike (R : Request → Request → Type 0) : Ask → Ask → Type 0 where
  call : {c d : Request} → R c d → AskedAlike R (Asked.call c) (Asked.call d)
  row : {now : ℕ} {bs bs' : List ℕ} → length bs ≡ length bs' → AskedAlike R (Asked.row now bs) (Asked.row now bs')

-- ---- the numbering

-- the byte of a write to FIFO is its word's low 8 bits
abbrev pub fifo_bytes_of : ℕ → Request → List ℕ
fifo_bytes_of fifo c = flat_map (λ x. choose (eqb x.offset fifo) (x.value % 256 ∷ []) []) (given c).1

-- what is given with a call or with a row
unfoldable pub given_by : {C W A : Type 0} → (C → List A) → (List W → List A) → Asked C W → List A
given_by of-call of_row (Asked.call c) = of-call c
given_by of-call of_row (Asked.row now bs) = of_row bs

abbrev pub host_given : Ask → List ℕ
host_given a = given_by host_of (λ bs. []) a

-- a row gives all its bytes, made or not
abbrev pub fifo_given : ℕ → Ask → List ℕ
fifo_given fifo a = given_by (fifo_bytes_of fifo) (λ bs. bs) a

-- of a list the n-th host byte and the byte of the n-th FIFO write, both from 0, refused and dropped ones too
abbrev pub host_byte : List Ask → ℕ → ℕ
host_byte cs n = get_or (flat_map host_given cs) n 0

abbrev pub write_byte : ℕ → List Ask → ℕ → ℕ
write_byte fifo cs n = get_or (flat_map (fifo_given fifo) cs) n 0
