-- The words of a line, and the next one from a place on. Assumes nothing.
use Rattle.std.specs.Prelude.{◌≡◌, List, [], ◌∷◌, ℕ, ◌≤◌, min, eqb, length}
use Rattle.text.specs.Pick.{pick}
use Rattle.text.specs.Seek.{is_byte, is_other, seek}
use Rattle.text.specs.declared.words.Word.{Word}

abbrev pub space : ℕ
space = 32

-- what stands between the spaces of a line, with the empty pieces
unfoldable pub onto : ℕ → List (List ℕ) → List (List ℕ)
onto b [] = (b ∷ []) ∷ []
onto b (piece ∷ ps) = (b ∷ piece) ∷ ps

unfoldable pub pieces : List ℕ → List (List ℕ)
pieces [] = [] ∷ []
pieces (b ∷ s) = pick (eqb b space) ([] ∷ pieces s) (onto b (pieces s))

-- an empty piece is no word
unfoldable pub joined : List ℕ → List (List ℕ) → List (List ℕ)
joined [] ws = ws
joined (b ∷ piece) ws = (b ∷ piece) ∷ ws

unfoldable pub filled : List (List ℕ) → List (List ℕ)
filled [] = []
filled (piece ∷ ps) = joined piece (filled ps)

-- the words of a line
unfoldable pub words : List ℕ → List (List ℕ)
words s = filled (pieces s)

-- where the first word from `at` on starts: past the spaces
abbrev pub word_start : List ℕ → ℕ → ℕ
word_start s at = seek (is_other space) s (min at (length s))

-- and where it ends: at the next space
abbrev pub word_end : List ℕ → ℕ → ℕ
word_end s at = seek (is_byte space) s (word_start s at)

abbrev pub next_word : List ℕ → ℕ → Word
next_word s at = record { start = word_start s at; end = word_end s at }

-- the word that was found, whose bytes are a part of the line
pub record Found (s : List ℕ) (at : ℕ) (w : Word) : Type 0 where
  pub next : w ≡ next_word s at
  pub ordered : w.start ≤ w.end
  pub within : w.end ≤ length s
