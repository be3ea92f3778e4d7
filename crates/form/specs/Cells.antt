-- A form is a list of cells, one to a byte: a byte of a number, which tells nothing of a pattern, a byte of the host, or one that the
-- firmware wrote. Assumes nothing.
use Rattle.std.specs.Prelude.{ℕ, zero, suc, ◌/◌, ◌%◌}
use mathlib.Core.List.{List, [], ◌∷◌, map, flat_map}

pub data Cell (H W : Type 0) : Type 0 where
  number : ℕ → Cell H W
  host : H → Cell H W
  written : W → Cell H W

-- where bytes are numbers, the byte that a cell is
unfoldable pub byte_of : Cell ℕ ℕ → ℕ
byte_of (Cell.number n) = n
byte_of (Cell.host b) = b
byte_of (Cell.written b) = b

abbrev pub bytes_of : List (Cell ℕ ℕ) → List ℕ
bytes_of cs = map byte_of cs

-- a number, and how many bytes it takes
pub record Field : Type 0 where
  pub width : ℕ
  pub value : ℕ

-- a number of one width
abbrev pub of_width : ℕ → ℕ → Field
of_width w n = record { width = w; value = n }

-- the low byte first
unfoldable pub low_first : ℕ → ℕ → List ℕ
low_first zero n = []
low_first (suc k) n = n % 256 ∷ low_first k (n / 256)

unfoldable pub field_bytes : List Field → List ℕ
field_bytes fs = flat_map (λ f. low_first f.width f.value) fs

-- fields one after the other
unfoldable pub numbers : {H W : Type 0} → List Field → List (Cell H W)
numbers fs = map Cell.number (field_bytes fs)
