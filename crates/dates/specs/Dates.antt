-- Dates on natural numbers: in cycles of the emulator, or in subcycles, 32 to a cycle.
-- A date fits 64 bits: what would pass the last one is held there. Assumes nothing.
use Rattle.std.specs.Prelude.{ℕ, ◌+◌, ◌-◌, ◌*◌, ◌/◌, ◌^◌, min, max}

-- how many subcycles a cycle has
abbrev pub per_cycle : ℕ
per_cycle = 32

-- the last date
abbrev pub last : ℕ
last = 2 ^ 64 - 1

-- a date, held at the last one
abbrev pub held : ℕ → ℕ
held n = min n last

-- the date `span` after `date`
abbrev pub after : ℕ → ℕ → ℕ
after date span = held (date + span)

-- the subcycle at which a cycle begins
abbrev pub subcycles : ℕ → ℕ
subcycles cycle = held (cycle * per_cycle)

-- the first cycle that begins at or after a subcycle
abbrev pub cycles : ℕ → ℕ
cycles date = (date + (per_cycle - 1)) / per_cycle

-- the later and the earlier of two dates
abbrev pub later : ℕ → ℕ → ℕ
later a b = max a b

abbrev pub earlier : ℕ → ℕ → ℕ
earlier a b = min a b
