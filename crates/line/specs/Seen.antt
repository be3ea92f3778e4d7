-- What the code sees of a pass: the kind of what it found, without its date and its byte. Assumes nothing.
use Rattle.std.specs.Prelude.{◌≡◌, ℕ, ◌≤◌, Bool, true, false}
use Rattle.std.proofs.Math.Path.{refl}
use Rattle.std.proofs.Common.{arith}
use Rattle.model.specs.Events
use Rattle.model.specs.Events.{Event, departure, timeout, landing, nothing}
use Rattle.model.specs.State.{Uart}
use Rattle.model.specs.Settle.{Pass}
use Rattle.model.specs.declared.Fate.TheVariants.{Stored, Overflowed, Cleared, ClockOff, Unheard}
use Rattle.line.specs.declared.Found.{Found}
use Rattle.line.specs.declared.Found.TheVariants.{NothingDue, TimedOut, Landed}

-- no pass finds a departure
unfoldable pub found_of : {H W : Type 0} → Event H W → Found
found_of (departure at b) = NothingDue
found_of (timeout at) = TimedOut
found_of (landing at b f) = Landed f
found_of (nothing at) = NothingDue

pub record Seen (H W : Type 0) : Type 0 where
  pub found : Found
  pub state : Uart H W

abbrev pub seen : {H W : Type 0} → Pass H W → Seen H W
seen p = record { found = found_of p.event; state = p.state }

-- ---- what follows from what was found

abbrev pub goes_on : Found → Bool
goes_on NothingDue = false
goes_on TimedOut = true
goes_on (Landed f) = true

abbrev pub lost : Found → ℕ
lost NothingDue = 0
lost TimedOut = 0
lost (Landed Stored) = 0
lost (Landed Overflowed) = 1
lost (Landed Cleared) = 0
lost (Landed ClockOff) = 0
lost (Landed Unheard) = 0

pub lost-low : (f : Found) → lost f ≤ 1
lost-low NothingDue = omega arith
lost-low TimedOut = omega arith
lost-low (Landed Stored) = omega arith
lost-low (Landed Overflowed) = omega arith
lost-low (Landed Cleared) = omega arith
lost-low (Landed ClockOff) = omega arith
lost-low (Landed Unheard) = omega arith

-- it is as much as follows from the event
module _ {H W : Type 0} where
  pub goes_on-seen : (e : Event H W) → Events.goes_on e ≡ goes_on (found_of e)
  unfolding Events.goes_on found_of
  goes_on-seen (departure at b) = refl
  goes_on-seen (timeout at) = refl
  goes_on-seen (landing at b f) = refl
  goes_on-seen (nothing at) = refl

  pub loses : (e : Event H W) → Events.lost e ≡ lost (found_of e)
  unfolding Events.lost found_of
  loses (departure at b) = refl
  loses (timeout at) = refl
  loses (landing at b Stored) = refl
  loses (landing at b Overflowed) = refl
  loses (landing at b Cleared) = refl
  loses (landing at b ClockOff) = refl
  loses (landing at b Unheard) = refl
  loses (nothing at) = refl
