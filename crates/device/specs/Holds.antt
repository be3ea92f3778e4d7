-- What a core and the slots of its queues stand for: a state of the definition. Assumes nothing.
-- Free, and so left out of it: where a queue starts in its slots, what stands in slots that hold no element, and the byte of
-- the core while nothing is on the line.
use Rattle.std.specs.Prelude.{◌≡◌, List, ℕ, length, Some, None}
use Rattle.std.proofs.Math.Option.{Option, none, some}
use Rattle.model.specs.State.{Sent, Run, OnTheLine}
use Rattle.model.specs.State
use Rattle.model.specs.Limits.{Within}
use Rattle.queue.specs.Cursors.{Held, slot_of, elems}
use Rattle.queue.specs.declared.Cursor.{Cursor}
use Rattle.line.specs.Names.{Receiving}
use Rattle.device.specs.declared.Core.{Core}

-- the slots of the seven arrays
pub record Arrays : Type 0 where
  pub gone_at : List ℕ
  pub flight : List ℕ
  pub tx : List ℕ
  pub host : List ℕ
  pub run_at : List ℕ
  pub run_len : List ℕ
  pub rx : List ℕ

-- ---- each queue

abbrev pub sent_at : List ℕ → List ℕ → ℕ → Sent ℕ
sent_at dates bytes i = record { gone_at = slot_of dates 0 i; byte = slot_of bytes 0 i }

abbrev pub run_in : List ℕ → List ℕ → ℕ → Run
run_in dates counts i = record { date = slot_of dates 0 i; count = slot_of counts 0 i }

abbrev pub flight_of : List ℕ → List ℕ → Cursor → List (Sent ℕ)
flight_of dates bytes c = elems (sent_at dates bytes) 129 c

abbrev pub tx_of : List ℕ → Cursor → List ℕ
tx_of slots c = elems (slot_of slots 0) 1152 c

abbrev pub host_of : List ℕ → Cursor → List ℕ
host_of slots c = elems (slot_of slots 0) 1024 c

abbrev pub runs_of : List ℕ → List ℕ → Cursor → List Run
runs_of dates counts c = elems (run_in dates counts) 64 c

abbrev pub rx_of : List ℕ → Cursor → List ℕ
rx_of slots c = elems (slot_of slots 0) 128 c

unfoldable pub on_the_line : Receiving → ℕ → Option (OnTheLine ℕ)
on_the_line None b = none
on_the_line (Some f) b = some (record { byte = b; frame = f })

-- ---- the whole

abbrev pub abs : Core → Arrays → State.Uart ℕ ℕ
abs c a = record {
  map = c.map;
  control = c.control;
  in_flight = flight_of a.gone_at a.flight c.flight;
  tx = tx_of a.tx c.tx;
  host = host_of a.host c.host;
  host_runs = runs_of a.run_at a.run_len c.runs;
  receiving = on_the_line c.receiving c.byte;
  rx = rx_of a.rx c.rx;
}

-- each cursor is within its slots, and each array has its length; `search` makes one of another, with what is new in scope or listed
pub record Shape (c : Core) (a : Arrays) : Type 0 where
  pub flight : Held 129 c.flight
  pub tx : Held 1152 c.tx
  pub host : Held 1024 c.host
  pub runs : Held 64 c.runs
  pub rx : Held 128 c.rx
  pub gone_at_slots : length a.gone_at ≡ 129
  pub flight_slots : length a.flight ≡ 129
  pub tx_slots : length a.tx ≡ 1152
  pub host_slots : length a.host ≡ 1024
  pub run_date_slots : length a.run_at ≡ 64
  pub run_count_slots : length a.run_len ≡ 64
  pub rx_slots : length a.rx ≡ 128

-- the condition on a state: its queues stand in their slots, and it is within document 01's limits
pub record Valid (c : Core) (a : Arrays) : Type 0 where
  pub shape : Shape c a
  pub within : Within (abs c a)
