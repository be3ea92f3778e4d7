-- The head of a form: how many parts there are, and where each lies, in numbers of what the queues hold. Assumes nothing.
use Rattle.std.specs.Prelude.{◌≡◌, refl, List, [], ◌∷◌, map, ℕ, ◌+◌, ◌*◌, length}
use Rattle.std.proofs.Common.{ap}
use Rattle.queue.specs.Cursors.{Held}
use Rattle.form.specs.Cells.{Field}
use Rattle.form.specs.Form.{short, head_length, pairs_from, shortest_form}
use Rattle.park.specs.Rings.{line_count}
use Rattle.device.specs.declared.Core.{Core}

-- each cursor is within its slots
pub record Cursors (c : Core) : Type 0 where
  pub flight : Held 129 c.flight
  pub tx : Held 1152 c.tx
  pub host : Held 1024 c.host
  pub runs : Held 64 c.runs
  pub rx : Held 128 c.rx

-- offset and length of each part, back to back, by their lengths
abbrev pub pairs_of : ℕ → List ℕ → List ℕ
pairs_of at [] = []
pairs_of at (n ∷ ns) = at ∷ n ∷ pairs_of (at + n) ns

pub pairs-are : {A : Type 0} (ps : List (List A)) (at : ℕ) → pairs_from at ps ≡ map short (pairs_of at (map length ps))
unfolding pairs_from
pairs-are [] at = refl
pairs-are (p ∷ ps) at = ap (λ (l : List Field). short at ∷ short (length p) ∷ l) (pairs-are ps (at + length p))

-- bytes in flight, that left, on the line and that wait, runs and received bytes: so many
abbrev pub head_numbers : ℕ → ℕ → ℕ → ℕ → ℕ → ℕ → List ℕ
head_numbers flight tx line host runs rx =
    7 ∷ pairs_of head_length (108 ∷ 36 ∷ (60 + 8 * flight) ∷ (tx + flight) ∷ (line + host) ∷ (10 * runs) ∷ rx ∷ [])

abbrev pub head_of : Core → List ℕ
head_of c = head_numbers c.flight.count c.tx.count (line_count c.receiving) c.host.count c.runs.count c.rx.count

-- all but the numbers that are always there and the dates in flight
abbrev pub bytes_length : Core → ℕ
bytes_length c = c.tx.count + (c.flight.count + (line_count c.receiving + (c.host.count + (10 * c.runs.count + c.rx.count))))

-- the length of the form
abbrev pub length_of : Core → ℕ
length_of c = shortest_form + 8 * c.flight.count + bytes_length c
