-- What is kept of the answers. Assumes nothing.
use Rattle.std.specs.Prelude.{ℕ, ◌+◌, ◌*◌, ◌%◌, eqb}
use Rattle.model.specs.Numbers.{choose}
use Rattle.bench_mixed.specs.declared.notes.Notes.{Notes}

-- a value where it was read at a place, and else the word as it was
unfoldable pub kept_of : ℕ → ℕ → ℕ → ℕ → ℕ
kept_of place offset value word = choose (eqb offset place) value word

-- the sum with one value more
abbrev pub added : ℕ → Notes → Notes
added value s = record { sum = s.sum % 1000000007 * 3 + value % 1000000007; raised = s.raised; status = s.status }

-- what was read at an offset: INT_ST's and STATUS's words are kept
abbrev pub looked : ℕ → ℕ → Notes → Notes
looked offset value s =
    added value (record {
      sum = s.sum;
      raised = kept_of 8 offset value s.raised;
      status = kept_of 24 offset value s.status;
    })
