-- What a settling finds, in order, each with its date in subcycles. Passes and overflows are counted from it, and a run's
-- history is made of it. Assumes nothing.
use Rattle.std.specs.Prelude.{ℕ, ◌+◌, Bool, true, false, List, [], ◌∷◌}
use Rattle.model.specs.declared.Fate.{Fate}
use Rattle.model.specs.declared.Fate.TheVariants.{Stored, Overflowed, Cleared, ClockOff, Unheard}

pub data Event (H W : Type 0) : Type 0 where
  -- a byte in flight has gone
  departure : ℕ → W → Event H W
  -- the receive timeout comes
  timeout : ℕ → Event H W
  -- a host byte lands, and what becomes of it
  landing : ℕ → H → Fate → Event H W
  -- a pass finds nothing due by this date
  nothing : ℕ → Event H W

-- the sum of a number over a list
unfoldable pub total : {A : Type 0} → (A → ℕ) → List A → ℕ
total n [] = 0
total n (x ∷ xs) = n x + total n xs

module _ {H W : Type 0} where
  -- a pass that finds a timeout or a landing is not the last
  unfoldable pub goes_on : Event H W → Bool
  goes_on (departure at b) = false
  goes_on (timeout at) = true
  goes_on (landing at b f) = true
  goes_on (nothing at) = false

  -- each pass finds one thing; departures come before the passes
  unfoldable pub one_pass : Event H W → ℕ
  one_pass (departure at b) = 0
  one_pass (timeout at) = 1
  one_pass (landing at b f) = 1
  one_pass (nothing at) = 1

  -- a byte lost with UartRxOverflow
  unfoldable pub lost : Event H W → ℕ
  lost (departure at b) = 0
  lost (timeout at) = 0
  lost (landing at b Stored) = 0
  lost (landing at b Overflowed) = 1
  lost (landing at b Cleared) = 0
  lost (landing at b ClockOff) = 0
  lost (landing at b Unheard) = 0
  lost (nothing at) = 0

  -- the host bytes that land, in order, each with its date and its fate
  unfoldable pub landings_in : List (Event H W) → List (ℕ × H × Fate)
  landings_in [] = []
  landings_in (departure at b ∷ es) = landings_in es
  landings_in (timeout at ∷ es) = landings_in es
  landings_in (landing at b f ∷ es) = (at, b, f) ∷ landings_in es
  landings_in (nothing at ∷ es) = landings_in es

  unfoldable pub passes_in : List (Event H W) → ℕ
  passes_in es = total one_pass es

  unfoldable pub overflows_in : List (Event H W) → ℕ
  overflows_in es = total lost es
