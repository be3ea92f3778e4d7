-- All passes over the receive side as it stands in the slots: in any state that has such a receive side they are the
-- definition's. Assumes nothing.
use Rattle.std.specs.Prelude.{◌≡◌, List, ℕ}
use Rattle.model.specs.State
use Rattle.model.specs.Events.{passes_in, overflows_in}
use Rattle.model.specs.Settle
use Rattle.model.specs.Settle.{Settled}
use Rattle.model.specs.declared.Settings.{Settings}
use Rattle.device.specs.Receives.{Fit, with}
use Rattle.device.specs.declared.pass.Reception.{Reception}

-- the state that a settling leaves, and how many passes and overflows are among what it found
pub record Gives {H W : Type 0} (t : Settled H W) (v : State.Uart H W) (n o : ℕ) : Type 0 where
  pub state : v ≡ t.state
  pub passes : n ≡ passes_in t.events
  pub overflows : o ≡ overflows_in t.events

module _ (s : Settings) (date : ℕ) (at : Reception) (hosts dates counts rxs : List ℕ) (at' : Reception) (counts' rxs' : List ℕ) where
  -- all passes: the receive side that they leave, how many there were, and the bytes lost with UartRxOverflow
  pub record Ends (n o : ℕ) : Type 0 where
    pub fit : Fit at' hosts dates counts' rxs'
    pub all : (u : State.Uart ℕ ℕ) → Gives (Settle.passes s date (with at hosts dates counts rxs u))
        (with at' hosts dates counts' rxs' u) n o
