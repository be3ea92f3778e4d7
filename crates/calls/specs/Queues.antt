-- The core with other cursors for the bytes in flight and for those received, and the arrays with other slots for those in flight:
-- what FIFO reads, FIFO writes and the FIFO resets change. Assumes nothing.
use Rattle.std.specs.Prelude.{◌≡◌, List, ℕ, length}
use Rattle.queue.specs.Cursors.{Held}
use Rattle.queue.specs.declared.Cursor.{Cursor}
use Rattle.device.specs.Holds.{Arrays, Shape}
use Rattle.device.specs.declared.Core.{Core}

abbrev pub with_queues_of : Cursor → Cursor → Core → Core
with_queues_of flight rx c = record {
  map = c.map;
  control = c.control;
  receiving = c.receiving;
  byte = c.byte;
  flight = flight;
  tx = c.tx;
  host = c.host;
  runs = c.runs;
  rx = rx;
}

abbrev pub flying_in : List ℕ → List ℕ → Arrays → Arrays
flying_in dates bytes a =
    record { gone_at = dates; flight = bytes; tx = a.tx; host = a.host; run_at = a.run_at; run_len = a.run_len; rx = a.rx }

-- the queues stand in their slots again
pub queues-shape : (c : Core) (a : Arrays) → Shape c a → {flight rx : Cursor} → Held 129 flight → Held 128 rx → {dates bytes : List ℕ}
    → length dates ≡ 129 → length bytes ≡ 129 → Shape (with_queues_of flight rx c) (flying_in dates bytes a)
queues-shape c a k hf hr ed eb = search
