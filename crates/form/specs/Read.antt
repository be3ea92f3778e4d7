-- How bytes are read back as a state: each field at its place. That the bytes are a form is tested apart from it (Load), so any
-- bytes give some state here. Assumes nothing.
use Rattle.std.specs.Prelude.{ℕ, zero, suc, ◌+◌, ◌-◌, ◌*◌, ◌/◌, List, [], ◌∷◌, ◌++◌, eqb, length, get_or, take, drop, replicate, Some, None}
use Rattle.std.proofs.Math.Option.{Option, none, some}
use Rattle.model.specs.Numbers.{choose}
use Rattle.model.specs.State.{Sent, Run, OnTheLine, Uart}
use Rattle.model.specs.Names.{Date}
use Rattle.model.specs.declared.Source.{Source}
use Rattle.model.specs.declared.Words.{Words}
use Rattle.model.specs.declared.RegisterMap.{RegisterMap}
use Rattle.model.specs.declared.Control.{Control}

-- ---- numbers

unfoldable pub value_of : List ℕ → ℕ
value_of [] = 0
value_of (b ∷ bs) = b + 256 * value_of bs

unfoldable pub number_at : ℕ → ℕ → List ℕ → ℕ
number_at place width bs = value_of (take width (drop place bs))

-- numbers of these widths, one after the other
unfoldable pub numbers_in : List ℕ → List ℕ → List ℕ
numbers_in [] bs = []
numbers_in (w ∷ ws) bs = value_of (take w bs) ∷ numbers_in ws (drop w bs)

-- ---- parts

-- as many parts, whose pairs stand from a place on
unfoldable pub parts_from : ℕ → ℕ → List ℕ → List (List ℕ)
parts_from zero place bs = []
parts_from (suc k) place bs = take (number_at (place + 2) 2 bs) (drop (number_at place 2 bs) bs) ∷ parts_from k (place + 4) bs

abbrev pub parts_in : List ℕ → List (List ℕ)
parts_in bs = parts_from 7 2 bs

abbrev pub part_at : ℕ → List ℕ → List ℕ
part_at k bs = get_or (parts_in bs) k []

-- ---- the fields of a part

abbrev pub words_in : List ℕ → Words
words_in ns = record {
  int_ena = get_or ns 0 0;
  clkdiv = get_or ns 1 0;
  conf0 = get_or ns 2 0;
  conf1 = get_or ns 3 0;
  clk_conf = get_or ns 4 0;
  idle_conf = get_or ns 5 0;
  rs485_conf = get_or ns 6 0;
  at_cmd_char = get_or ns 7 0;
  mem_conf = get_or ns 8 0;
}

abbrev pub reset_in : List ℕ → Words
reset_in ns = record {
  int_ena = get_or ns 0 0;
  clkdiv = get_or ns 1 0;
  conf0 = get_or ns 3 0;
  conf1 = get_or ns 4 0;
  clk_conf = get_or ns 5 0;
  idle_conf = get_or ns 6 0;
  rs485_conf = get_or ns 7 0;
  at_cmd_char = get_or ns 8 0;
  mem_conf = get_or ns 9 0;
}

abbrev pub map_with : List ℕ → List ℕ → RegisterMap
map_with offsets ns =
    record { offsets = offsets; reset = reset_in ns; idle_status = get_or ns 2 0; mem_rx_status = get_or ns 10 0 }

unfoldable pub map_in : List ℕ → RegisterMap
map_in p = map_with (take 16 (numbers_in (replicate 27 4) p)) (drop 16 (numbers_in (replicate 27 4) p))

abbrev pub date_in : ℕ → ℕ → Date
date_in mark d = choose (eqb mark 0) None (Some d)

abbrev pub source_in : ℕ → Source
source_in n = choose (eqb n 1) Source.Sel0 (choose (eqb n 3) Source.Sel2 Source.None)

-- the widths of the dates and marks that are always there
abbrev pub fixed_widths : List ℕ
fixed_widths = 8 ∷ 1 ∷ 8 ∷ 8 ∷ 1 ∷ 8 ∷ 1 ∷ 1 ∷ 4 ∷ 1 ∷ 1 ∷ 8 ∷ 8 ∷ 1 ∷ 1 ∷ []

abbrev pub fixed_length : ℕ
fixed_length = 60

-- how many dates of bytes in flight follow them
abbrev pub flying_in : List ℕ → ℕ
flying_in p = (length p - fixed_length) / 8

unfoldable pub dates_in : List ℕ → List ℕ
dates_in p = numbers_in (fixed_widths ++ replicate (flying_in p) 8) p

abbrev pub control_with : Words → List ℕ → Control
control_with w ns = record {
  words = w;
  line = record {
    int_raw = get_or ns 8 0;
    rx_mistimed = source_in (get_or ns 9 0);
    idle_since = date_in (get_or ns 10 0) (get_or ns 11 0);
    line_free_at = get_or ns 12 0;
  };
  period = get_or ns 3 0;
  last = get_or ns 0 0;
  wake = date_in (get_or ns 1 0) (get_or ns 2 0);
  watched = eqb (get_or ns 6 0) 1;
  powered_down_at = date_in (get_or ns 4 0) (get_or ns 5 0);
  level = eqb (get_or ns 7 0) 1;
}

-- the first host byte is on the line where the mark says that one is
abbrev pub receiving_in : ℕ → ℕ → List ℕ → Option (OnTheLine ℕ)
receiving_in mark source bs =
    choose (eqb mark 0) none
    (some (record { byte = get_or bs 0 0; frame = record { timed_on = source_in source; heard = eqb mark 2 } }))

abbrev pub waiting_in : ℕ → List ℕ → List ℕ
waiting_in mark bs = choose (eqb mark 0) bs (drop 1 bs)

-- each date with its byte
unfoldable pub sent_in : List ℕ → List ℕ → List (Sent ℕ)
sent_in [] bs = []
sent_in (d ∷ ds) [] = []
sent_in (d ∷ ds) (b ∷ bs) = record { gone_at = d; byte = b } ∷ sent_in ds bs

unfoldable pub runs_from : ℕ → List ℕ → List Run
runs_from zero p = []
runs_from (suc k) p = record { date = number_at 0 8 p; count = number_at 8 2 p } ∷ runs_from k (drop 10 p)

abbrev pub runs_in : List ℕ → List Run
runs_in p = runs_from (length p / 10) p

-- ---- the state

unfoldable pub state_with : List ℕ → List ℕ → List ℕ → List ℕ → List ℕ → List ℕ → List ℕ → Uart ℕ ℕ
state_with pm pw pd ps ph pr px = record {
  map = map_in pm;
  control = control_with (words_in (numbers_in (replicate 9 4) pw)) (dates_in pd);
  in_flight = sent_in (drop 15 (dates_in pd)) (drop (length ps - flying_in pd) ps);
  tx = take (length ps - flying_in pd) ps;
  host = waiting_in (get_or (dates_in pd) 13 0) ph;
  host_runs = runs_in pr;
  receiving = receiving_in (get_or (dates_in pd) 13 0) (get_or (dates_in pd) 14 0) ph;
  rx = px;
}

unfoldable pub state_in : List ℕ → Uart ℕ ℕ
state_in bs = state_with (part_at 0 bs) (part_at 1 bs) (part_at 2 bs) (part_at 3 bs) (part_at 4 bs) (part_at 5 bs) (part_at 6 bs)
