-- Every call and every row keeps the widths of a state. Assumes nothing.
use Rattle.std.specs.Prelude.{◌≡◌, ℕ, zero, suc, ◌-◌, ◌%◌, ◌^◌, ◌<◌, Bool, take, get_or}
use Rattle.std.proofs.Math.Path.{refl}
use Rattle.std.proofs.Common.{sym, ap, ap₂, subst, ◌∙◌, arith}
use Rattle.std.proofs.Math.Nat.{min-le_right}
use Rattle.std.proofs.Math.Bool.{true, false, decide}
use Rattle.std.proofs.Math.Option.{Option, none, some}
use mathlib.Core.List.{List, [], ◌∷◌, map, map-id}
use Rattle.std.proofs.lemmas.Nat.{or_lt}
use Rattle.std.specs.Int.Bits.{and_le_l}
use Rattle.dates.specs.Dates
use Rattle.model.proofs.Laws.Lists.{all_head}
use Rattle.model.specs.Numbers.{choose}
use Rattle.model.specs.State.{Sent, OnTheLine, Uart, line_of, line_bytes}
use Rattle.theorems.specs.TwoRuns.Renamed.{map_sent, map_receiving, map_uart}
use Rattle.model.specs.Line.{RXFIFO-OVF, RXFIFO-TOUT, TXFIFO-EMPTY, RXFIFO-FULL, TX-DONE, raise_if, note_source, opened, time_out}
use Rattle.model.specs.Line.{start, land}
use Rattle.model.specs.Settle.{tx_done, leave, depart, timed_out, landed, begun, assert_levels, drive, levels, leveled}
use Rattle.model.specs.Settle.{settings_of}
use Rattle.model.specs.Settle.{settle_to, settle}
use Rattle.model.specs.Arm.{arm}
use Rattle.model.specs.Map.{Word, Register, is_fifo, register_of, place_among, same_word, value_of, words_by, replaced}
use Rattle.model.specs.Registers.{Access, pop, read_register, read_looking, read_at, send_byte, sent, dropped, reset_fifos, storing}
use Rattle.model.specs.Registers.{clearing, write_register, concluded}
use Rattle.model.specs.Calls
use Rattle.model.specs.Calls.{Outcome, refusing, after_settling, carried, outcome, quiet, dated, clocked, cleared, cleared_line}
use Rattle.model.specs.Calls.{hand_over, read_placed, send, write_placed}
use Rattle.model.specs.Call.{Machine, Dated, Undated, Call, date_of, Written, Request, given, Asked, Ask}
use Rattle.model.specs.Row.{row_limit, fifo_write, writes, left_by, summed}
use Rattle.model.specs.Run.{Step, stepped, answering, replying, plan_by, writing, plan, asked_by, asked}
use Rattle.model.specs.SetUp.{words_among, fifo_counts, map_of, new_control, new}
use Rattle.model.specs.Limits.{All, nil, cons, NoLater}
use Rattle.model.specs.Widths.{Word32, Bytes, Given, AskedGiven, Widths}
use Rattle.model.proofs.Laws.Choose.{choose-ind}
use Rattle.model.proofs.Laws.Cases.{KeptOnLine, passes-ind}
use Rattle.model.proofs.Laws.AccessCases.{write-ind, unless-ind, read_register-ind, write_register-ind}
use Rattle.model.proofs.Refuses.Conditions.{carried_out, Result, refusal, done}
use Rattle.model.proofs.Refuses.Refusals.{asked-result}
use Rattle.model.proofs.Ends.Settlings.{call-changes, settled-all}
use Rattle.theorems.specs.TwoRuns.Renamed.{itself}
use Rattle.theorems.specs.TwoRuns.Natural.{bytes-nat}
use Rattle.theorems.specs.TwoRuns.NaturalCalls.{map_put, map_placed, map_step}
use Rattle.theorems.specs.TwoRuns.NaturalRuns.{map_asked, asked-nat}
use Rattle.model.proofs.Laws.Placed.{Put, changed_dated, changed_undated, changed, changed_asked, put_at, placed, placed_asked}
use Rattle.model.proofs.Laws.Placed.{step_placed}
use Rattle.model.proofs.Keeps.MapKept.{asked-kept, asked-placed}
use Rattle.model.specs.declared.Line.{Line}
use Rattle.model.specs.declared.Frame.{Frame}
use Rattle.model.specs.declared.Settings.{Settings}
use Rattle.model.specs.declared.Fate.{Fate}
use Rattle.model.specs.declared.Fate.TheVariants.{Stored, Overflowed, Cleared, ClockOff, Unheard}
use Rattle.model.specs.declared.Unsupported.{Unsupported}
use Rattle.model.specs.declared.Words.{Words}
use Rattle.model.specs.Names.{Write}

abbrev Words32 : Words → Type 0
Words32 w = (x : Word) → Word32 (value_of w x)

-- ---- the numbers

record Numbers {H W : Type 0} (u : Uart H W) : Type 0 where
  reset : Words32 u.map.reset
  words : Words32 u.control.words
  raw : Word32 (line_of u).int_raw
  down : NoLater Dates.last u.control.powered_down_at

raise-fits : (t : Bool) (n : ℕ) (l : Line) → 2 ^ n < 2 ^ 32 → Word32 l.int_raw → Word32 (raise_if t n l).int_raw
unfolding raise_if
raise-fits t n l h w = choose-ind Word32 t (λ _. or_lt 32 l.int_raw (2 ^ n) w h) (λ _. w)

module _ (s : Settings) where
  out-fits : (held : ℕ) (l : Line) → Word32 l.int_raw → Word32 (time_out s held l).int_raw
  unfolding time_out note_source
  out-fits held l w =
      choose-ind (λ (x : Line). Word32 x.int_raw) _ (λ _. raise-fits _ RXFIFO-TOUT _ (omega arith) w) (λ _. w)

  land-fits : (f : Fate) (fr : Frame) (l : Line) → Word32 l.int_raw → Word32 (land s f fr l).int_raw
  unfolding land opened note_source
  land-fits Stored fr l w = w
  land-fits Overflowed fr l w = raise-fits _ RXFIFO-OVF l (omega arith) w
  land-fits Cleared fr l w = w
  land-fits ClockOff fr l w = w
  land-fits Unheard fr l w = w

  start_fits : (at : ℕ) (l : Line) → Word32 l.int_raw → Word32 (start s at l).int_raw
  unfolding start note_source
  start_fits at l w = choose-ind (λ (x : Line). Word32 x.int_raw) _ (λ _. w) (λ _. w)

value-by : (value : Word → ℕ) (y : Word) → value_of (words_by value) y ≡ value y
unfolding value_of words_by
value-by value Word.int_ena = refl
value-by value Word.clkdiv = refl
value-by value Word.conf0 = refl
value-by value Word.conf1 = refl
value-by value Word.clk_conf = refl
value-by value Word.idle_conf = refl
value-by value Word.rs485_conf = refl
value-by value Word.at_cmd_char = refl
value-by value Word.mem_conf = refl

stored-fits : (x : Word) (v : ℕ) (w : Words) → Word32 v → Words32 w → Words32 (replaced x v w)
unfolding replaced
stored-fits x v w h k y = subst Word32 (sym (value-by (λ z. choose (same_word x z) v (value_of w z)) y))
    (choose-ind Word32 _ (λ _. h) (λ _. k y))

module _ {H W : Type 0} where
  -- the same numbers, another INT_RAW that fits
  with_raw : {u v : Uart H W} → v.map ≡ u.map → v.control.words ≡ u.control.words
      → v.control.powered_down_at ≡ u.control.powered_down_at → Word32 (line_of v).int_raw → Numbers u → Numbers v
  with_raw a b c raw n = record {
    reset = subst (λ m. Words32 m.reset) (sym a) n.reset;
    words = subst Words32 (sym b) n.words;
    raw = raw;
    down = subst (NoLater Dates.last) (sym c) n.down;
  }

  numbers-kept : (s : Settings) → KeptOnLine {H = H} {W = W} s Numbers
  unfolding timed_out landed begun
  numbers-kept s = record {
    timeout = λ u n. with_raw refl refl refl (out-fits s _ (line_of u) n.raw) n;
    landing = λ l u n. with_raw refl refl refl (land-fits s _ l.frame (line_of u) n.raw) n;
    start = λ at b bs u e h n. with_raw refl refl refl (start_fits s at (line_of u) n.raw) n;
  }

  levels-numbers : (u : Uart H W) → Numbers u → Numbers (levels u)
  unfolding levels drive assert_levels
  levels-numbers u n =
      with_raw refl refl refl (raise-fits _ TXFIFO-EMPTY _ (omega arith) (raise-fits _ RXFIFO-FULL (line_of u) (omega arith) n.raw)) n

  depart-numbers : (date : ℕ) (u : Uart H W) → Numbers u → Numbers (depart date u)
  unfolding depart leave tx_done
  depart-numbers date u n = with_raw refl refl refl (raise-fits _ TX-DONE (line_of u) (omega arith) n.raw) n

  settle-numbers : (now : ℕ) (u : Uart H W) → Numbers u → Numbers (settle now u).state
  unfolding settle settle_to leveled
  settle-numbers now u n =
      levels-numbers _ (passes-ind (settings_of u) Numbers (numbers-kept (settings_of u)) _ (depart _ u) (depart-numbers _ u n))

  arm-numbers : (u : Uart H W) → Numbers u → Numbers (arm u)
  unfolding arm
  arm-numbers u n = with_raw refl refl refl n.raw n

  hand-numbers : (date : ℕ) (bs : List H) (u : Uart H W) → Numbers u → Numbers (hand_over date bs u)
  unfolding hand_over
  hand-numbers date [] u n = n
  hand-numbers date (b ∷ bs) u n = arm-numbers _ (with_raw refl refl refl n.raw n)

  -- ---- a read

  pop-numbers : (ns : List Unsupported) (bs : List H) (u : Uart H W) → Numbers u → Numbers (pop ns bs u).state
  unfolding pop
  pop-numbers ns [] u n = n
  pop-numbers ns (b ∷ bs) u n = with_raw refl refl refl n.raw n

  read-numbers : (ns : List Unsupported) (r : Register) (u : Uart H W) → Numbers u → Numbers (read_register ns r u).state
  read-numbers ns r u n = read_register-ind (λ a. Numbers a.state) ns u (pop-numbers ns u.rx u n) (λ _. n) r

  looking-numbers : (b : Bool) (r : Register) (u : Uart H W) → Numbers u → Numbers (read_looking b r u).state
  unfolding read_looking
  looking-numbers true r u n = read-numbers _ r _ (with_raw refl refl refl n.raw n)
  looking-numbers false r u n = read-numbers [] r u n

  -- ---- a write

  write-numbers : (r : Register) (v : ℕ) (u : Uart H W) → Word32 v → Numbers u → Numbers (write_register r v u).state
  unfolding storing clearing reset_fifos
  write-numbers r v u h n =
      write_register-ind (λ _ a. Numbers a.state) v u (λ _. n)
      (with_raw refl refl refl (omega (arith, and_le_l (line_of u).int_raw (2 ^ 32 - 1 - v), n.raw)) n)
      (λ x. record { reset = n.reset; words = stored-fits x v u.control.words h n.words; raw = n.raw; down = n.down })
      (λ x. record { reset = n.reset; words = stored-fits x v u.control.words h n.words; raw = n.raw; down = n.down }) r

  send-numbers : (now : ℕ) (b : W) (u : Uart H W) → Numbers u → Numbers (send_byte now b u).state
  unfolding send_byte sent dropped
  send-numbers now b u n = choose-ind (λ (a : Access _ H W). Numbers a.state) _ (λ _. n) (λ _. with_raw refl refl refl n.raw n)

-- ---- every call

changes-numbers : (now : ℕ) (c : Dated ℕ Written ℕ ℕ) (u : Uart ℕ ℕ)
    → All (λ f. (v : Uart ℕ ℕ) → Numbers v → Numbers (f v)) (plan (Call.at now c) u).changes
unfolding clocked
changes-numbers now c u =
    call-changes (λ f. (v : Uart ℕ ℕ) → Numbers v → Numbers (f v)) now (λ v n. n) (λ v n. with_raw refl refl refl n.raw n)
    (λ v n. record { reset = n.reset; words = n.words; raw = n.raw; down = tt }) c u (λ period _ v n. with_raw refl refl refl n.raw n)

machine-worked : (now : ℕ) (m : Machine) (u v : Uart ℕ ℕ) → Numbers v → Numbers ((Calls.machine now m u).work v).state
unfolding Calls.machine quiet cleared cleared_line
machine-worked now Machine.wake u v n = arm-numbers v n
machine-worked now Machine.reset u v n =
    arm-numbers _ (levels-numbers _ (record { reset = n.reset; words = n.reset; raw = omega arith; down = n.down }))
machine-worked now Machine.power_down u v n = record { reset = n.reset; words = n.words; raw = n.raw; down = min-le_right _ _ }
machine-worked now (Machine.watch b) u v n = arm-numbers _ (with_raw refl refl refl n.raw n)
machine-worked now (Machine.clock_change period) u v n = arm-numbers v n

worked-numbers : (c : Request) (u v : Uart ℕ ℕ) → Given c → Numbers v → Numbers ((plan c u).work v).state
unfolding plan plan_by replying writing given quiet read_at concluded Calls.read read_placed Calls.write send write_placed Calls.receive
    Calls.take_tx Calls.take_written Calls.has_left Calls.host_pending
worked-numbers (Call.at now (Dated.read offset)) u v g n = looking-numbers _ _ v n
worked-numbers (Call.at now (Dated.write x)) u v g n =
    write-ind (λ p. Numbers (p.work v).state) now (register_of u.map.offsets x.offset) x.value u
    (λ _. arm-numbers _ (levels-numbers _ (send-numbers now _ v n)))
    (λ _. arm-numbers _ (levels-numbers _ (write-numbers _ x.value v (all_head g.0) n)))
worked-numbers (Call.at now (Dated.receive date bs)) u v g n = hand-numbers _ bs v n
worked-numbers (Call.at now (Dated.take_tx lent)) u v g n = with_raw refl refl refl n.raw n
worked-numbers (Call.at now (Dated.machine m)) u v g n = machine-worked now m u v n
worked-numbers (Call.undated (Undated.take_written lent)) u v g n = with_raw refl refl refl n.raw n
worked-numbers (Call.undated Undated.has_left) u v g n = n
worked-numbers (Call.undated Undated.host_pending) u v g n = n

carried-numbers : (c : Request) (u : Uart ℕ ℕ) → Given c → Numbers u → Numbers (carried (date_of c) (plan c u) u).state
unfolding carried after_settling dated date_of
carried-numbers (Call.at now c) u g n =
    worked-numbers (Call.at now c) u _ g
    (settled-all Numbers now (settle-numbers now) _ _ (with_raw refl refl refl n.raw n) (changes-numbers now c u))
carried-numbers (Call.undated c) u g n = worked-numbers (Call.undated c) u u g n

-- one write to FIFO, and those of a row
fifo-numbers : (now b : ℕ) (u : Uart ℕ ℕ) → Numbers u → Numbers (fifo_write now u b).state
unfolding outcome refusing carried after_settling send concluded dated
fifo-numbers now b u n =
    unless-ind (λ (o : Outcome Write ℕ ℕ). Numbers o.state) _ _ _ u (λ r. n)
    (arm-numbers _ (levels-numbers _ (send-numbers now b _ (settle-numbers now _ (with_raw refl refl refl n.raw n)))))

made-numbers : (now : ℕ) (bs : List ℕ) (u : Uart ℕ ℕ) → Numbers u → Numbers (left_by u (writes now u bs))
unfolding writes left_by
made-numbers now [] u n = n
made-numbers now (b ∷ bs) u n =
    choose-ind (λ (os : List (Outcome Write ℕ ℕ)). Numbers (left_by u os)) _
    (λ _. made-numbers now bs (fifo_write now u b).state (fifo-numbers now b u n)) (λ _. n)

result-numbers : (c : Ask) (u : Uart ℕ ℕ) {s : Step ℕ ℕ ℕ} → AskedGiven c → Numbers u → Result c u s → Numbers s.state
unfolding stepped answering carried_out summed
result-numbers c u g n (refusal f) = n
result-numbers (Asked.call c) u g n (done all) = carried-numbers c u g n
result-numbers (Asked.row now bs) u g n (done all) = made-numbers now (take row_limit bs) u n

asked-numbers : (c : Ask) (u : Uart ℕ ℕ) → AskedGiven c → Numbers u → Numbers (asked c u).state
asked-numbers c u g n = result-numbers c u g n (asked-result c u)

-- ---- the bytes: a state has bytes alone where cutting each to its low 8 bits changes nothing, and a call looks into none

low : ℕ → ℕ
low b = b % 256

abbrev Cut : Uart ℕ ℕ → Type 0
Cut u = map_uart low low u ≡ u

low_same : (bs : List ℕ) → Bytes bs → map low bs ≡ bs
unfolding low
low_same [] a = refl
low_same (b ∷ bs) (cons p a) = ap₂ ◌∷◌ (let e : b % 256 ≡ b = omega arith in e) (low_same bs a)

same_low : (bs : List ℕ) → map low bs ≡ bs → Bytes bs
unfolding low
same_low [] e = nil
same_low (b ∷ bs) e =
    let p : b % 256 ≡ b = cc in
    let q : map low bs ≡ bs = cc in
    let h : b < 256 = omega arith in
    cons h (same_low bs q)

flight-same : (ss : List (Sent ℕ)) → Bytes (map (λ s. s.byte) ss) → map (map_sent low) ss ≡ ss
unfolding low
flight-same [] a = refl
flight-same (s ∷ ss) (cons p a) =
    ap₂ (λ b r. record { gone_at = s.gone_at; byte = b } ∷ r) (let e : s.byte % 256 ≡ s.byte = omega arith in e) (flight-same ss a)

line_same : (o : Option (OnTheLine ℕ)) → Bytes (line_bytes o) → map_receiving low o ≡ o
unfolding map_receiving low
line_same none h = refl
line_same (some l) (cons h nil) =
    ap (λ b. some (record { byte = b; frame = l.frame })) (let e : l.byte % 256 ≡ l.byte = omega arith in e)

byte_on : Option (OnTheLine ℕ) → ℕ
byte_on none = 0
byte_on (some l) = l.byte

same_line : (o : Option (OnTheLine ℕ)) → map_receiving low o ≡ o → Bytes (line_bytes o)
unfolding map_receiving low byte_on
same_line none e = nil
same_line (some l) e = let p : l.byte % 256 ≡ l.byte = ap byte_on e in let h : l.byte < 256 = omega arith in cons h nil

widths-cut : (u : Uart ℕ ℕ) → Widths u → Cut u
widths-cut u w =
    let flight = flight-same u.in_flight w.in_flight in
    let tx = low_same u.tx w.tx in
    let host = low_same u.host w.host in
    let line = line_same u.receiving w.receiving in
    let rx = low_same u.rx w.rx in
    λ i. record {
      map = u.map;
      control = u.control;
      in_flight = flight i;
      tx = tx i;
      host = host i;
      host_runs = u.host_runs;
      receiving = line i;
      rx = rx i;
    }

put-cut : (r : Register) (v : ℕ) → map_put low (put_at r v) ≡ put_at r v
unfolding put_at map_put low
put-cut r v =
    choose-ind (λ (x : Put ℕ). map_put low x ≡ x) (is_fifo r) (λ _. ap Put.byte (let e : v % 256 % 256 ≡ v % 256 = omega arith in e))
    (λ _. refl)

-- a call whose host bytes are bytes is the same with each cut
given-cut : (offsets : List ℕ) (c : Request) → Given c → map_placed low low itself (placed offsets c) ≡ placed offsets c
unfolding map_placed placed changed changed_dated changed_undated given
given-cut offsets (Call.at now (Dated.read offset)) g = refl
given-cut offsets (Call.at now (Dated.write x)) g =
    ap (λ y. Call.at now (Dated.write y)) (put-cut (register_of offsets x.offset) x.value)
given-cut offsets (Call.at now (Dated.receive date bs)) g = ap (λ l. Call.at now (Dated.receive date l)) (low_same bs g.1)
given-cut offsets (Call.at now (Dated.take_tx lent)) g = ap (λ l. Call.at now (Dated.take_tx l)) (map-id lent)
given-cut offsets (Call.at now (Dated.machine m)) g = refl
given-cut offsets (Call.undated (Undated.take_written lent)) g = ap (λ l. Call.undated (Undated.take_written l)) (map-id lent)
given-cut offsets (Call.undated Undated.has_left) g = refl
given-cut offsets (Call.undated Undated.host_pending) g = refl

asked-given-cut : (offsets : List ℕ) (c : Ask) → AskedGiven c → map_asked low low itself (placed_asked offsets c) ≡ placed_asked offsets c
unfolding changed_asked
asked-given-cut offsets (Asked.call c) g = ap Asked.call (given-cut offsets c g)
asked-given-cut offsets (Asked.row now bs) g = ap (Asked.row now) (low_same bs g)

asked-cut : (c : Ask) (u : Uart ℕ ℕ) → AskedGiven c → Cut u → Cut (asked c u).state
unfolding map_step
asked-cut c u g e =
    let pc = placed_asked u.map.offsets c in
    let same : asked c u ≡ asked_by step_placed pc u = asked-placed c u in
    let fixed : map_step low low itself (asked_by step_placed pc u) ≡ asked_by step_placed pc u =
    sym (asked-nat low low itself pc u) ∙ ap₂ (asked_by step_placed) (asked-given-cut u.map.offsets c g) e in
    subst (λ s. Cut s.state) (sym same) (ap (λ s. s.state) fixed)

-- ---- the whole

-- every call and every row keeps the widths, refused or not
pub asked-widths : (c : Ask) (u : Uart ℕ ℕ) → AskedGiven c → Widths u → Widths (asked c u).state
asked-widths c u g w =
    let n = asked-numbers c u g (record { reset = w.reset; words = w.words; raw = w.int_raw; down = w.powered_down_at }) in
    let v : Uart ℕ ℕ = (asked c u).state in
    let cut : Cut v = asked-cut c u g (widths-cut u w) in
    let map-kept = asked-kept c u in
    record {
      offsets = subst (λ m. All Word32 m.offsets) (sym map-kept) w.offsets;
      reset = n.reset;
      idle_status = subst (λ m. Word32 m.idle_status) (sym map-kept) w.idle_status;
      mem_rx_status = subst (λ m. Word32 m.mem_rx_status) (sym map-kept) w.mem_rx_status;
      words = n.words;
      int_raw = n.raw;
      powered_down_at = n.down;
      in_flight = same_low _ (sym (bytes-nat low v.in_flight) ∙ ap (λ x. map (λ s. s.byte) x.in_flight) cut);
      tx = same_low v.tx (ap (λ x. x.tx) cut);
      host = same_low v.host (ap (λ x. x.host) cut);
      receiving = same_line v.receiving (ap (λ x. x.receiving) cut);
      rx = same_low v.rx (ap (λ x. x.rx) cut);
    }

-- set-up gives them, from sixteen offsets and reset words of 32 bits
among-fits : (ws : List ℕ) (n : ℕ) → All Word32 ws → Word32 (get_or ws n 0)
among-fits [] zero a = omega arith
among-fits [] (suc n) a = omega arith
among-fits (x ∷ ws) zero (cons p a) = p
among-fits (x ∷ ws) (suc n) (cons p a) = among-fits ws n a

words-fit : (ws : List ℕ) → All Word32 ws → Words32 (words_among ws)
unfolding words_among words_by value_of place_among choose decide
words-fit ws a Word.int_ena = among-fits ws 3 a
words-fit ws a Word.clkdiv = among-fits ws 5 a
words-fit ws a Word.conf0 = among-fits ws 8 a
words-fit ws a Word.conf1 = among-fits ws 9 a
words-fit ws a Word.clk_conf = among-fits ws 10 a
words-fit ws a Word.idle_conf = among-fits ws 11 a
words-fit ws a Word.rs485_conf = among-fits ws 12 a
words-fit ws a Word.at_cmd_char = among-fits ws 13 a
words-fit ws a Word.mem_conf = among-fits ws 14 a

pub new-widths : (offsets ws : List ℕ) → All Word32 offsets → All Word32 ws → Widths (new offsets ws)
unfolding new map_of new_control place_among choose decide
new-widths offsets ws o a =
    record {
      offsets = o;
      reset = words-fit ws a;
      idle_status = omega (arith, and_le_l (get_or ws 6 0) (2 ^ 32 - 1 - fifo_counts), among-fits ws 6 a);
      mem_rx_status = among-fits ws 15 a;
      words = words-fit ws a;
      int_raw = omega arith;
      powered_down_at = tt;
      in_flight = nil;
      tx = nil;
      host = nil;
      receiving = nil;
      rx = nil;
    }
