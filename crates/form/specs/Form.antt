-- The form of a state: seven parts, and before them how many they are and where each lies. One state has one form: where a ring
-- starts, what an unused slot holds and what stands behind an absent value are no bytes of it. Assumes nothing.
use Rattle.std.specs.Prelude.{ℕ, ◌+◌, Bool, true, false, length, Some, None}
use Rattle.std.proofs.Math.Option.{Option, none, some}
use mathlib.Core.List.{List, [], ◌∷◌, ◌++◌, map, flat_map}
use Rattle.model.specs.Numbers.{choose, instant_of}
use Rattle.model.specs.State.{Run, OnTheLine, Uart, line_of, line_bytes}
use Rattle.model.specs.Limits.{flight_dates}
use Rattle.model.specs.Calls.{written}
use Rattle.form.specs.Cells.{Cell, Field, numbers}
use Rattle.model.specs.Names.{Date}
use Rattle.model.specs.declared.Source.{Source}
use Rattle.model.specs.declared.Words.{Words}
use Rattle.model.specs.declared.RegisterMap.{RegisterMap}

-- ---- the fields, by their widths

abbrev pub byte : ℕ → Field
byte n = record { width = 1; value = n }

abbrev pub word : ℕ → Field
word n = record { width = 4; value = n }

-- a date, and every other number of 64 bits
abbrev pub long : ℕ → Field
long n = record { width = 8; value = n }

-- a length, an offset in the form, a count
abbrev pub short : ℕ → Field
short n = record { width = 2; value = n }

abbrev pub mark_of : Bool → ℕ
mark_of false = 0
mark_of true = 1

-- a date that may be missing is a mark, 0 for none and 1 for a date, and the date, 0 where none is
abbrev pub date_mark : Date → ℕ
date_mark None = 0
date_mark (Some d) = 1

-- 0 for none, else one more than the SCLK_SEL
abbrev pub source_number : Source → ℕ
source_number Source.None = 0
source_number Source.Sel0 = 1
source_number Source.Sel2 = 3

-- the byte on the line: 0 for none, 1 where its start was not heard, 2 where it was
abbrev pub frame_mark : {H : Type 0} → Option (OnTheLine H) → ℕ
frame_mark none = 0
frame_mark (some l) = choose l.frame.heard 2 1

-- and the source that timed it; 0 where there is no byte
abbrev pub frame_source : {H : Type 0} → Option (OnTheLine H) → ℕ
frame_source none = 0
frame_source (some l) = source_number l.frame.timed_on

-- ---- the parts

-- the stored words, in the order of set-up
abbrev pub word_list : Words → List ℕ
word_list w =
    w.int_ena ∷ w.clkdiv ∷ w.conf0 ∷ w.conf1 ∷ w.clk_conf ∷ w.idle_conf ∷ w.rs485_conf ∷ w.at_cmd_char
    ∷ w.mem_conf ∷ []

-- the reset words that are used, in that order too: STATUS, without its counts, stands between CLKDIV and CONF0, MEM_RX_STATUS last
abbrev pub reset_list : RegisterMap → List ℕ
reset_list m =
    let w = m.reset in
    w.int_ena ∷ w.clkdiv ∷ m.idle_status ∷ w.conf0 ∷ w.conf1 ∷ w.clk_conf ∷ w.idle_conf ∷ w.rs485_conf
    ∷ w.at_cmd_char ∷ w.mem_conf ∷ m.mem_rx_status ∷ []

-- sixteen offsets, and the reset words
unfoldable pub map_fields : RegisterMap → List Field
map_fields m = map word (m.offsets ++ reset_list m)

unfoldable pub word_fields : Words → List Field
word_fields w = map word (word_list w)

unfoldable pub run_fields : List Run → List Field
run_fields rs = flat_map (λ r. long r.date ∷ short r.count ∷ []) rs

module _ {H W : Type 0} where
  -- the byte on the line lands when the line is free; last, when each byte in flight has gone
  unfoldable pub date_and_mark_fields : Uart H W → List Field
  date_and_mark_fields u =
      let c = u.control in
      let l = line_of u in
      long c.last
      ∷ byte (date_mark c.wake) ∷ long (instant_of c.wake)
      ∷ long c.period
      ∷ byte (date_mark c.powered_down_at) ∷ long (instant_of c.powered_down_at)
      ∷ byte (mark_of c.watched)
      ∷ byte (mark_of c.level)
      ∷ word l.int_raw
      ∷ byte (source_number l.rx_mistimed)
      ∷ byte (date_mark l.idle_since) ∷ long (instant_of l.idle_since)
      ∷ long l.line_free_at
      ∷ byte (frame_mark u.receiving) ∷ byte (frame_source u.receiving)
      ∷ map long (flight_dates u.in_flight)

  -- the bytes that left come before those in flight, the byte on the line before those that wait
  unfoldable pub parts_of : Uart H W → List (List (Cell H W))
  parts_of u =
      numbers (map_fields u.map) ∷ numbers (word_fields u.control.words) ∷ numbers (date_and_mark_fields u)
      ∷ map Cell.written (written u) ∷ map Cell.host (line_bytes u.receiving ++ u.host) ∷ numbers (run_fields u.host_runs)
      ∷ map Cell.host u.rx ∷ []

-- ---- where the parts lie

-- a count of 16 bits and seven pairs of them
abbrev pub head_length : ℕ
head_length = 30

-- offset and length of each part, back to back
unfoldable pub pairs_from : {A : Type 0} → ℕ → List (List A) → List Field
pairs_from at [] = []
pairs_from at (p ∷ ps) = short at ∷ short (length p) ∷ pairs_from (at + length p) ps

module _ {H W : Type 0} where
  unfoldable pub laid_out : List (List (Cell H W)) → List (Cell H W)
  laid_out ps = numbers (short (length ps) ∷ pairs_from head_length ps) ++ flat_map (λ p. p) ps

  unfoldable pub form : Uart H W → List (Cell H W)
  form u = laid_out (parts_of u)

-- the length of a form without a byte or run, and the largest: 129 bytes in flight and 1,023 that left, one on the line and 1,024 that
-- wait, 64 runs and 128 received
abbrev pub shortest_form : ℕ
shortest_form = 234

abbrev pub largest_form : ℕ
largest_form = 4211
