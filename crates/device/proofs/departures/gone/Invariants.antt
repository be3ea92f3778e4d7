-- What each loop of `departures::gone` keeps, and what gets less.
use mathlib.Core.Path.{◌≡◌}
use mathlib.Core.List.{List}
use Prim.Native.Nat.{ℕ, ◌+◌}
use Rattle.model.specs.Settle.{gone}
use Rattle.queue.specs.Cursors.{Held}
use Rattle.device.specs.Holds.{flight_of}
use Rattle.device.proofs.departures.gone.Given as goal

abbrev pub invariant-loop-rest : goal.invariant-loop-rest
invariant-loop-rest l =
    Held 129 l.rest × ((bytes : List ℕ) → l.n + gone l.date (flight_of l.gone_at bytes l.rest)
    ≡ gone l.date (flight_of l.gone_at bytes l.initial.rest))
    × (l.n + l.rest.count ≡ l.initial.rest.count)

abbrev pub decreases-loop-rest : goal.decreases-loop-rest
decreases-loop-rest l =
    l.rest.count
