-- Tests, fields of words and optional dates: what the other definitions are written with. Assumes nothing.
use Rattle.std.specs.Prelude.{ℕ, ◌-◌, ◌/◌, ◌%◌, ◌^◌, Bool, true, false, leb, eqb, Some, None}
use Rattle.std.specs.Int.Bits.{bit_and}
use Rattle.dates.specs.Dates.{cycles, earlier}
use Rattle.model.specs.Names.{Date}

-- the first where the test passes, and else the second
unfoldable pub choose {ℓ} : {X : Type ℓ} → Bool → X → X → X
choose true x y = x
choose false x y = y

-- the field of `width` bits that starts at bit `low`
abbrev pub field : ℕ → ℕ → ℕ → ℕ
field low width word = word / 2 ^ low % 2 ^ width

-- whether bit `n` of a word is set
abbrev pub bit : ℕ → ℕ → Bool
bit n word = eqb (word / 2 ^ n % 2) 1

-- a 32-bit word without the bits that are set in `mask`
abbrev pub without : ℕ → ℕ → ℕ
without mask word = bit_and word (2 ^ 32 - 1 - mask)

-- document 01's due: dated at or before `date`
unfoldable pub due_by : ℕ → Date → Bool
due_by date None = false
due_by date (Some at) = leb at date

-- the date that is there; 0 where none is
unfoldable pub instant_of : Date → ℕ
instant_of None = 0
instant_of (Some at) = at

unfoldable pub only_if : Bool → Date → Date
only_if true d = d
only_if false d = None

-- the earlier of two dates that may be missing
unfoldable pub earliest : Date → Date → Date
earliest None d = d
earliest (Some a) None = Some a
earliest (Some a) (Some b) = Some (earlier a b)

-- a date in subcycles as the cycle at which it has come
unfoldable pub in_cycles : Date → Date
in_cycles None = None
in_cycles (Some a) = Some (cycles a)
