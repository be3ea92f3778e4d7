-- The form of a blanked state is the form of the state with the bytes of three parts at 0: sent, host and received. Assumes nothing.
use Rattle.std.specs.Prelude.{◌≡◌, refl, ℕ, List, [], ◌∷◌, map, get_or}
use Rattle.std.proofs.Common.{ap, ◌∙◌}
use Rattle.std.proofs.lemmas.List.{map-append}
use Rattle.model.specs.State.{Uart, line_bytes}
use Rattle.form.specs.Cells.{bytes_of}
use Rattle.form.specs.Form.{form}
use Rattle.form.proofs.Laws.Parts.{laid_bytes}
use Rattle.form.proofs.Laws.Back.{seven, form-bytes}
use Rattle.theorems.specs.Blanked.{blank_byte}
use Rattle.theorems.specs.TwoRuns.NaturalCalls.{written-nat}
use Rattle.theorems.specs.Orders.Natural.{line-nat, dates-nat}
use Rattle.theorems.specs.Orders.Blanked.{blanked_state}

-- of seven parts the fourth, the fifth and the seventh
abbrev pub blanked_parts : List (List ℕ) → List (List ℕ)
blanked_parts ps =
    get_or ps 0 [] ∷ get_or ps 1 [] ∷ get_or ps 2 [] ∷ map blank_byte (get_or ps 3 []) ∷ map blank_byte (get_or ps 4 []) ∷ get_or ps 5 []
    ∷ map blank_byte (get_or ps 6 []) ∷ []

parts-blanked : (u : Uart ℕ ℕ) → seven (blanked_state u) ≡ blanked_parts (seven u)
parts-blanked u =
    rw (
      dates-nat blank_byte blank_byte u,
      written-nat blank_byte blank_byte u,
      line-nat blank_byte blank_byte u.receiving,
      map-append blank_byte (line_bytes u.receiving) u.host,
    ) refl

pub blanked-form : (u : Uart ℕ ℕ) → bytes_of (form (blanked_state u)) ≡ laid_bytes (blanked_parts (seven u))
blanked-form u = form-bytes (blanked_state u) ∙ ap laid_bytes (parts-blanked u)
