-- The receive side as it stands in the slots, and what a pass does to it: in any state that has such a receive side it is the
-- definition's. Assumes nothing.
use Rattle.std.specs.Prelude.{◌≡◌, Bool, true, false, List, ℕ, leb, length}
use Rattle.model.specs.State
use Rattle.model.specs.Setters.{with_line}
use Rattle.model.specs.Settle
use Rattle.model.specs.declared.Settings.{Settings}
use Rattle.line.specs.declared.Found.{Found}
use Rattle.queue.specs.Cursors.{Held}
use Rattle.line.specs.Seen.{Seen, seen}
use Rattle.device.specs.Holds.{host_of, runs_of, rx_of, on_the_line}
use Rattle.device.specs.declared.pass.Reception.{Reception}

-- ---- what the small functions of a pass give

abbrev pub num : Bool → ℕ
num true = 1
num false = 0

-- whether a run of n bytes goes, where one of them starts
unfoldable pub spent : Bool → ℕ → Bool
spent true n = leb n 1
spent false n = false

-- ---- the receive side

-- the cursors are within their slots, and the arrays have their lengths
pub record Fit (at : Reception) (hosts dates counts rxs : List ℕ) : Type 0 where
  pub host : Held 1024 at.host
  pub runs : Held 64 at.runs
  pub rx : Held 128 at.rx
  pub host_slots : length hosts ≡ 1024
  pub run_date_slots : length dates ≡ 64
  pub run_count_slots : length counts ≡ 64
  pub rx_slots : length rxs ≡ 128

-- a state, with the receive side that a reception and its slots stand for
abbrev pub with : Reception → List ℕ → List ℕ → List ℕ → List ℕ → State.Uart ℕ ℕ → State.Uart ℕ ℕ
with at hosts dates counts rxs u = record {
  map = u.map;
  control = with_line at.line u.control;
  in_flight = u.in_flight;
  tx = u.tx;
  host = host_of hosts at.host;
  host_runs = runs_of dates counts at.runs;
  receiving = on_the_line at.receiving at.byte;
  rx = rx_of rxs at.rx;
}

module _ (s : Settings) (date : ℕ) (at : Reception) (hosts dates counts rxs : List ℕ) (at' : Reception) (counts' rxs' : List ℕ) where
  -- one pass: what it found, and the receive side that it leaves
  pub record Passes (found : Found) : Type 0 where
    pub fit : Fit at' hosts dates counts' rxs'
    pub one : (u : State.Uart ℕ ℕ)
        → ◌≡◌ {A = Seen ℕ ℕ} (seen (Settle.pass s date (with at hosts dates counts rxs u)))
        (record { found = found; state = with at' hosts dates counts' rxs' u })
