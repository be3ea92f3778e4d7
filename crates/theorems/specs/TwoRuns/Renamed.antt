-- The same state and the same answer with other bytes: each byte replaced by what a function makes of it. Assumes nothing.
use Rattle.std.proofs.Math.Option.{Option, none, some}
use Rattle.std.specs.Prelude.{ℕ, List, map}
use Rattle.model.specs.State.{Sent, OnTheLine, Uart}
use Rattle.model.specs.Replies.{ReadOf, word, byte, no_value, refused, Take}
use Rattle.model.specs.Call.{Ask, Reply, reads, writes, does, takes, left, pends, rows, Answer}
use Rattle.theorems.specs.TwoRuns.Alike.{host_byte, write_byte}

abbrev pub map_sent : {W W' : Type 0} → (W → W') → Sent W → Sent W'
map_sent g s = record { gone_at = s.gone_at; byte = g s.byte }

abbrev pub map_on_the_line : {H H' : Type 0} → (H → H') → OnTheLine H → OnTheLine H'
map_on_the_line f l = record { byte = f l.byte; frame = l.frame }

unfoldable pub map_receiving : {H H' : Type 0} → (H → H') → Option (OnTheLine H) → Option (OnTheLine H')
map_receiving f none = none
map_receiving f (some l) = some (map_on_the_line f l)

abbrev pub map_uart : {H H' W W' : Type 0} → (H → H') → (W → W') → Uart H W → Uart H' W'
map_uart f g u = record {
  map = u.map;
  control = u.control;
  in_flight = map (map_sent g) u.in_flight;
  tx = map g u.tx;
  host = map f u.host;
  host_runs = u.host_runs;
  receiving = map_receiving f u.receiving;
  rx = map f u.rx;
}

-- ---- an answer with other bytes in it

unfoldable pub map_read_of : {H H' : Type 0} → (H → H') → ReadOf H → ReadOf H'
map_read_of f (word n) = word n
map_read_of f (byte b) = byte (f b)
map_read_of f no_value = no_value
map_read_of f (refused r) = refused r

unfoldable pub map_take : {W W' L L' : Type 0} → (W → W') → (L → L') → Take W L → Take W' L'
map_take g h t = record { taken = t.taken; front = map g t.front; rest = map h t.rest }

unfoldable pub map_reply : {H H' W W' L L' : Type 0} → (H → H') → (W → W') → (L → L') → Reply H W L → Reply H' W' L'
map_reply f g h (reads r) = reads (map_read_of f r)
map_reply f g h (writes r) = writes r
map_reply f g h (does r) = does r
map_reply f g h (takes t) = takes (map_take g h t)
map_reply f g h (left b) = left b
map_reply f g h (pends n) = pends n
map_reply f g h (rows r) = rows r

unfoldable pub map_answer : {H H' W W' L L' : Type 0} → (H → H') → (W → W') → (L → L') → Answer H W L → Answer H' W' L'
map_answer f g h a = record { reply = map_reply f g h a.reply; report = a.report }

-- the same byte
abbrev pub itself : {A : Type 0} → A → A
itself a = a

unfoldable pub forget : {A : Type 0} → A → Unit {0}
forget a = tt

-- each number replaced by the byte that has it in a list
unfoldable pub with_bytes_of : ℕ → List Ask → Answer ℕ ℕ (Unit {0}) → Answer ℕ ℕ (Unit {0})
with_bytes_of fifo cs a = map_answer (host_byte cs) (write_byte fifo cs) itself a
