-- A state that is read from bytes has the widths of its fields, whatever the bytes are. Assumes nothing.
use Rattle.std.specs.Prelude.{refl, ℕ, zero, suc, ◌+◌, ◌-◌, ◌/◌, ◌^◌, ◌≤◌, ◌<◌, Bool, true, false, List, [], ◌∷◌, ◌++◌, map, eqb, length}
use Rattle.std.specs.Prelude.{Some, None}
use Rattle.std.specs.Prelude.{get_or, take, drop, replicate}
use Rattle.std.proofs.Common.{sym, subst, pow-suc, arith, get_or-drop}
use Rattle.std.proofs.Math.Option.{none, some}
use Rattle.dates.specs.Dates
use Rattle.model.specs.Numbers.{choose}
use Rattle.model.specs.State.{Uart, line_bytes}
use Rattle.model.specs.Map.{Word, value_of as Map·value_of}
use Rattle.model.specs.Limits.{All, nil, cons, Fits, NoLater, flight_dates, run_dates}
use Rattle.model.proofs.Laws.Lists.{all_take, all_drop}
use Rattle.model.specs.Widths.{Word32, Bytes, Widths}
use Rattle.form.specs.Read.{value_of, number_at, numbers_in, parts_from, part_at, map_in, date_in, source_in, fixed_widths}
use Rattle.form.specs.Read.{flying_in, dates_in}
use Rattle.form.specs.Read.{receiving_in, waiting_in, sent_in, runs_from, state_with, state_in}
use Rattle.form.proofs.Laws.Within.{Wide}

-- ---- numbers

value-fits : (w : ℕ) (bs : List ℕ) → Bytes bs → value_of (take w bs) < 256 ^ w
unfolding value_of
value-fits zero bs a = omega arith
value-fits (suc w) [] a = omega (arith, pow-suc 256 w, value-fits w [] nil)
value-fits (suc w) (b ∷ bs) (cons h a) = omega (arith, pow-suc 256 w, value-fits w bs a)

number_fits : (ws bs : List ℕ) → Bytes bs → (i : ℕ) → get_or (numbers_in ws bs) i 0 < 256 ^ get_or ws i 0
unfolding numbers_in
number_fits [] bs a i = omega arith
number_fits (w ∷ ws) bs a zero = value-fits w bs a
number_fits (w ∷ ws) bs a (suc i) = number_fits ws (drop w bs) (all_drop w bs a) i

one-width-fits : (k w : ℕ) (bs : List ℕ) → Bytes bs → All (λ n. n < 256 ^ w) (numbers_in (replicate k w) bs)
unfolding numbers_in
one-width-fits zero w bs a = nil
one-width-fits (suc k) w bs a = cons (value-fits w bs a) (one-width-fits k w (drop w bs) (all_drop w bs a))

-- those of one width that follow others
behind-fits : (ws : List ℕ) (k w : ℕ) (bs : List ℕ) → Bytes bs
    → All (λ n. n < 256 ^ w) (drop (length ws) (numbers_in (ws ++ replicate k w) bs))
unfolding numbers_in
behind-fits [] k w bs a = one-width-fits k w bs a
behind-fits (v ∷ ws) k w bs a = behind-fits ws k w (drop v bs) (all_drop v bs a)

dates-fit : (ns : List ℕ) → All (λ n. n < 256 ^ 8) ns → All Fits ns
dates-fit [] a = nil
dates-fit (n ∷ ns) (cons h a) =
    let fits : n ≤ Dates.last = omega (arith, h) in
    cons fits (dates-fit ns a)

date-fits : (mark d : ℕ) → d < 256 ^ 8 → NoLater Dates.last (date_in mark d)
unfolding choose
date-fits mark d h = by-mark (eqb mark 0)
  where
    by-mark : (t : Bool) → NoLater Dates.last (choose t None (Some d))
    by-mark true = tt
    by-mark false = omega (arith, h)

-- ---- bytes

byte_fits : (bs : List ℕ) → Bytes bs → (i : ℕ) → get_or bs i 0 < 256
byte_fits [] a i = omega arith
byte_fits (b ∷ bs) (cons h a) zero = h
byte_fits (b ∷ bs) (cons h a) (suc i) = byte_fits bs a i

sent-dates-fit : (ds bs : List ℕ) → All Fits ds → All Fits (flight_dates (sent_in ds bs))
unfolding sent_in
sent-dates-fit [] bs a = nil
sent-dates-fit (d ∷ ds) [] a = nil
sent-dates-fit (d ∷ ds) (b ∷ bs) (cons h a) = cons h (sent-dates-fit ds bs a)

sent-bytes-fit : (ds bs : List ℕ) → Bytes bs → Bytes (map (λ s. s.byte) (sent_in ds bs))
unfolding sent_in
sent-bytes-fit [] bs a = nil
sent-bytes-fit (d ∷ ds) [] a = nil
sent-bytes-fit (d ∷ ds) (b ∷ bs) (cons h a) = cons h (sent-bytes-fit ds bs a)

run-dates-fit : (k : ℕ) (p : List ℕ) → Bytes p → All Fits (run_dates (runs_from k p))
unfolding runs_from number_at
run-dates-fit zero p a = nil
run-dates-fit (suc k) p a =
    let fits : value_of (take 8 p) ≤ Dates.last = omega (arith, value-fits 8 p a) in
    cons fits (run-dates-fit k (drop 10 p) (all_drop 10 p a))

receiving-fits : (mark source : ℕ) (bs : List ℕ) → Bytes bs → Bytes (line_bytes (receiving_in mark source bs))
unfolding choose
receiving-fits mark source bs a = by-mark (eqb mark 0)
  where
    by-mark : (t : Bool) → Bytes (line_bytes (choose t none (some (record {
      byte = get_or bs 0 0;
      frame = record { timed_on = source_in source; heard = eqb mark 2 };
    }))))
    by-mark true = nil
    by-mark false = cons (byte_fits bs a 0) nil

waiting-fits : (mark : ℕ) (bs : List ℕ) → Bytes bs → Bytes (waiting_in mark bs)
unfolding choose
waiting-fits mark bs a = by-mark (eqb mark 0)
  where
    by-mark : (t : Bool) → Bytes (choose t bs (drop 1 bs))
    by-mark true = a
    by-mark false = all_drop 1 bs a

-- ---- the state

part-fits : (k place : ℕ) (bs : List ℕ) → Bytes bs → (i : ℕ) → Bytes (get_or (parts_from k place bs) i [])
unfolding parts_from
part-fits zero place bs a i = nil
part-fits (suc k) place bs a zero = all_take (number_at (place + 2) 2 bs) _ (all_drop (number_at place 2 bs) bs a)
part-fits (suc k) place bs a (suc i) = part-fits k (place + 4) bs a i

module _ (pm pw pd ps ph pr px : List ℕ) (am : Bytes pm) (aw : Bytes pw) (ad : Bytes pd) (at : Bytes ps) (ah : Bytes ph) (ar : Bytes pr)
    (ax : Bytes px) where
  abbrev state : Uart ℕ ℕ
  state = state_with pm pw pd ps ph pr px

  abbrev map_numbers : List ℕ
  map_numbers = numbers_in (replicate 27 4) pm

  reset-fits : (i : ℕ) → get_or (drop 16 map_numbers) i 0 < 256 ^ get_or (replicate 27 4) (16 + i) 0
  reset-fits i =
      subst (λ n. n < 256 ^ get_or (replicate 27 4) (16 + i) 0) (sym (get_or-drop 16 map_numbers i 0))
      (number_fits (replicate 27 4) pm am (16 + i))

  abbrev date_widths : List ℕ
  date_widths = fixed_widths ++ replicate (flying_in pd) 8

  flying-fits : All Fits (drop 15 (dates_in pd))
  unfolding dates_in
  flying-fits = dates-fit (drop 15 (numbers_in date_widths pd)) (behind-fits fixed_widths (flying_in pd) 8 pd ad)

  reset-word : (x : Word) → Word32 (Map·value_of state.map.reset x)
  unfolding Map·value_of state_with map_in
  reset-word Word.int_ena = reset-fits 0
  reset-word Word.clkdiv = reset-fits 1
  reset-word Word.conf0 = reset-fits 3
  reset-word Word.conf1 = reset-fits 4
  reset-word Word.clk_conf = reset-fits 5
  reset-word Word.idle_conf = reset-fits 6
  reset-word Word.rs485_conf = reset-fits 7
  reset-word Word.at_cmd_char = reset-fits 8
  reset-word Word.mem_conf = reset-fits 9

  stored-word : (x : Word) → Word32 (Map·value_of state.control.words x)
  unfolding Map·value_of state_with
  stored-word Word.int_ena = number_fits (replicate 9 4) pw aw 0
  stored-word Word.clkdiv = number_fits (replicate 9 4) pw aw 1
  stored-word Word.conf0 = number_fits (replicate 9 4) pw aw 2
  stored-word Word.conf1 = number_fits (replicate 9 4) pw aw 3
  stored-word Word.clk_conf = number_fits (replicate 9 4) pw aw 4
  stored-word Word.idle_conf = number_fits (replicate 9 4) pw aw 5
  stored-word Word.rs485_conf = number_fits (replicate 9 4) pw aw 6
  stored-word Word.at_cmd_char = number_fits (replicate 9 4) pw aw 7
  stored-word Word.mem_conf = number_fits (replicate 9 4) pw aw 8

  read_wide : Wide state
  unfolding state_with map_in dates_in numbers_in
  read_wide = record {
    sixteen = refl;
    flying_fits = sent-dates-fit (drop 15 (dates_in pd)) (drop (length ps - flying_in pd) ps) flying-fits;
    runs_fit = run-dates-fit (length pr / 10) pr ar;
    line_fits = omega (arith, number_fits date_widths pd ad 12);
    idle_fits = date-fits (get_or (dates_in pd) 10 0) (get_or (dates_in pd) 11 0) (number_fits date_widths pd ad 11);
  }

  read-widths : Widths state
  unfolding state_with map_in dates_in
  read-widths = record {
    offsets = all_take 16 map_numbers (one-width-fits 27 4 pm am);
    reset = reset-word;
    idle_status = reset-fits 2;
    mem_rx_status = reset-fits 10;
    words = stored-word;
    int_raw = number_fits date_widths pd ad 8;
    powered_down_at = date-fits (get_or (dates_in pd) 4 0) (get_or (dates_in pd) 5 0) (number_fits date_widths pd ad 5);
    in_flight = sent-bytes-fit (drop 15 (dates_in pd)) (drop (length ps - flying_in pd) ps) (all_drop (length ps - flying_in pd) ps at);
    tx = all_take (length ps - flying_in pd) ps at;
    host = waiting-fits (get_or (dates_in pd) 13 0) ph ah;
    receiving = receiving-fits (get_or (dates_in pd) 13 0) (get_or (dates_in pd) 14 0) ph ah;
    rx = ax;
  }

module _ (bs : List ℕ) (a : Bytes bs) where
  part : (i : ℕ) → Bytes (part_at i bs)
  part i = part-fits 7 2 bs a i

  pub state-wide : Wide (state_in bs)
  unfolding state_in
  state-wide = read_wide _ _ _ _ _ _ _ (part 0) (part 1) (part 2) (part 3) (part 4) (part 5) (part 6)

  pub state-widths : Widths (state_in bs)
  unfolding state_in
  state-widths = read-widths _ _ _ _ _ _ _ (part 0) (part 1) (part 2) (part 3) (part 4) (part 5) (part 6)
