-- Laws of dates that the layers above use: between which bounds a cycle rounded up lies. Assumes nothing.
use Rattle.std.specs.Prelude.{◌≡◌, refl, ℕ, ◌+◌, ◌*◌, ◌^◌, ◌≤◌, ◌<◌}
use Rattle.std.proofs.Common.{arith}
use Rattle.dates.specs.Dates.{per_cycle, last, subcycles, cycles}

-- the largest subcycle rounds up to cycle 2^59, so no date of a wake is larger
pub cycles-last : cycles last ≡ 2 ^ 59
cycles-last = refl

pub cycles-bound : (date : ℕ) → date ≤ last → cycles date ≤ 2 ^ 59
cycles-bound date h = omega arith

-- the cycle begins at or after the date, and less than a cycle after it
pub cycles-reach : (date : ℕ) → date ≤ cycles date * per_cycle
cycles-reach date = omega arith

pub cycles-near : (date : ℕ) → cycles date * per_cycle < date + per_cycle
cycles-near date = omega arith

-- a cycle that document 01 takes is found again
pub cycles-subcycles : (cycle : ℕ) → cycle < 2 ^ 59 → cycles (subcycles cycle) ≡ cycle
cycles-subcycles cycle h = omega arith
