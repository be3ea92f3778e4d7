-- The seven arrays of a call, as one. Assumes nothing.
use Rattle.std.specs.Prelude.{List, ℕ}
use Rattle.std.specs.Borrow.{Bor}
use Rattle.device.specs.Holds.{Arrays}

abbrev pub arrays : List ℕ → List ℕ → List ℕ → List ℕ → List ℕ → List ℕ → List ℕ → Arrays
arrays gone_at flight tx host run_at run_len rx =
    record { gone_at = gone_at; flight = flight; tx = tx; host = host; run_at = run_at; run_len = run_len; rx = rx }

-- the same of what is lent, as it stands behind the references
abbrev pub lent : Bor (List ℕ) → Bor (List ℕ) → Bor (List ℕ) → Bor (List ℕ) → Bor (List ℕ) → Bor (List ℕ) → Bor (List ℕ) → Arrays
lent gone_at flight tx host run_at run_len rx = arrays gone_at.now flight.now tx.now host.now run_at.now run_len.now rx.now
