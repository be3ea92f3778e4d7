-- A form is read back as the state that it is the form of. Assumes nothing.
use Rattle.std.specs.Prelude.{◌≡◌, ℕ, ◌-◌, ◌/◌, ◌^◌, ◌≤◌, ◌<◌, Bool, true, false, eqb, length, get_or, take, drop, Some, None}
use Rattle.std.proofs.Math.Path.{refl, sym, ap, ap₂}
use Rattle.std.proofs.Common.{◌∙◌, arith}
use Rattle.std.proofs.Math.Option.{Option, none, some}
use mathlib.Core.List.{List, [], ◌∷◌, ◌++◌, map, flat_map, append-nil}
use Rattle.std.proofs.Math.ListN.{replicate, length-append, length-map}
use Rattle.std.proofs.Math.Seq.{take_at, drop_at}
use Rattle.model.specs.Events.{total}
use Rattle.model.specs.Numbers.{choose, instant_of}
use Rattle.model.specs.State.{Sent, Run, OnTheLine, Uart, line_of, line_bytes}
use Rattle.model.specs.Map.{Word, int_ena, clkdiv, conf0, conf1, clk_conf, idle_conf, rs485_conf, at_cmd_char, mem_conf}
use Rattle.model.specs.Map.{value_of as Map·value_of}
use Rattle.model.specs.Calls.{written}
use Rattle.model.specs.Tests.{host_limit}
use Rattle.model.specs.Limits.{All, nil, cons, Fits, NoLater, flight_dates, run_dates, Within}
use Rattle.model.proofs.Laws.Lists.{all_append}
use Rattle.model.specs.Widths.{Word32, Widths}
use Rattle.form.specs.Cells.{byte_of, bytes_of, Field, low_first, field_bytes}
use Rattle.form.specs.Form.{word, mark_of, date_mark, source_number, frame_mark, frame_source, word_list, reset_list}
use Rattle.form.specs.Form.{map_fields, word_fields, date_and_mark_fields, run_fields, parts_of, form}
use Rattle.form.specs.Read.{number_at, numbers_in, parts_in, words_in, map_with, map_in, date_in, source_in, fixed_widths}
use Rattle.form.specs.Read.{flying_in, dates_in, control_with, receiving_in, waiting_in, sent_in, runs_from, runs_in, state_with, state_in}
use Rattle.form.specs.Load.{lies}
use Rattle.form.proofs.Laws.Numbers.{Holds, value-back, numbers-back, widths, values, each_holds}
use Rattle.form.proofs.Laws.Numbers.{one-width-back}
use Rattle.form.proofs.Laws.Parts.{laid_bytes, parts-read, parts-lie, numbers-bytes, host-bytes, written-bytes, laid-bytes}
use Rattle.form.proofs.Laws.Lengths.{dates-long, runs-long, form-largest}
use Rattle.model.specs.Names.{Date}
use Rattle.model.specs.declared.Source.{Source}
use Rattle.model.specs.declared.Words.{Words}
use Rattle.model.specs.declared.RegisterMap.{RegisterMap}

-- ---- words

abbrev AllWords : Words → Type 0
AllWords w = (x : Word) → Word32 (Map·value_of w x)

words-fit : (w : Words) → AllWords w → All Word32 (word_list w)
unfolding Map·value_of
words-fit w h =
    cons (h int_ena) (cons (h clkdiv) (cons (h conf0) (cons (h conf1) (cons (h clk_conf) (cons (h idle_conf) (cons (h rs485_conf)
    (cons (h at_cmd_char) (cons (h mem_conf) nil))))))))

words_back : (w : Words) → AllWords w → words_in (numbers_in (replicate 9 4) (field_bytes (word_fields w))) ≡ w
unfolding word_fields
words_back w h = ap words_in (one-width-back 4 (word_list w) (words-fit w h))

-- ---- the register map

reset-fit : (m : RegisterMap) → AllWords m.reset → Word32 m.idle_status → Word32 m.mem_rx_status → All Word32 (reset_list m)
unfolding Map·value_of
reset-fit m h s r =
    cons (h int_ena) (cons (h clkdiv) (cons s (cons (h conf0) (cons (h conf1) (cons (h clk_conf) (cons (h idle_conf) (cons (h rs485_conf)
    (cons (h at_cmd_char) (cons (h mem_conf) (cons r nil))))))))))

map_back : (m : RegisterMap) → length m.offsets ≡ 16 → All Word32 m.offsets → AllWords m.reset → Word32 m.idle_status
    → Word32 m.mem_rx_status → map_in (field_bytes (map_fields m)) ≡ m
unfolding map_in map_fields
map_back m sixteen o h s r =
    let ns : List ℕ = m.offsets ++ reset_list m in
    let many : length ns ≡ 27 = omega (arith, length-append m.offsets (reset_list m), sixteen) in
    let read : numbers_in (replicate 27 4) (field_bytes (map word ns)) ≡ ns =
    ap (λ (k : ℕ). numbers_in (replicate k 4) (field_bytes (map word ns))) (sym many)
    ∙ one-width-back 4 ns (all_append m.offsets (reset_list m) o (reset-fit m h s r)) in
    ap₂ map_with (ap (take 16) read ∙ take_at m.offsets (reset_list m) 16 sixteen)
    (ap (drop 16) read ∙ drop_at m.offsets (reset_list m) 16 sixteen)

-- ---- dates and marks

date-back : (d : Date) → date_in (date_mark d) (instant_of d) ≡ d
unfolding instant_of choose
date-back None = refl
date-back (Some d) = refl

source-back : (s : Source) → source_in (source_number s) ≡ s
unfolding choose
source-back Source.None = refl
source-back Source.Sel0 = refl
source-back Source.Sel2 = refl

mark-back : (b : Bool) → eqb (mark_of b) 1 ≡ b
mark-back true = refl
mark-back false = refl

mark-fits : (b : Bool) → mark_of b < 256
mark-fits true = omega arith
mark-fits false = omega arith

date-mark-fits : (d : Date) → date_mark d < 256
date-mark-fits None = omega arith
date-mark-fits (Some d) = omega arith

source_fits : (s : Source) → source_number s < 256
source_fits Source.None = omega arith
source_fits Source.Sel0 = omega arith
source_fits Source.Sel2 = omega arith

instant-fits : (n : ℕ) (d : Date) → n < 256 ^ 8 → NoLater n d → instant_of d < 256 ^ 8
unfolding instant_of
instant-fits n None h l = omega (arith, h)
instant-fits n (Some d) h l = omega (arith, h, l)

frame-mark-fits : {H : Type 0} (r : Option (OnTheLine H)) → frame_mark r < 256
unfolding choose
frame-mark-fits none = omega arith
frame-mark-fits (some l) = by-heard l.frame.heard
  where
    by-heard : (b : Bool) → choose b 2 1 < 256
    by-heard true = omega arith
    by-heard false = omega arith

frame-source-fits : {H : Type 0} (r : Option (OnTheLine H)) → frame_source r < 256
frame-source-fits none = omega arith
frame-source-fits (some l) = source_fits l.frame.timed_on

longs-fit : (ns : List ℕ) → All Fits ns → All (λ n. n < 256 ^ 8) ns
longs-fit [] a = nil
longs-fit (n ∷ ns) (cons h a) =
    let fits : n < 256 ^ 8 = omega (arith, h) in
    cons fits (longs-fit ns a)

-- ---- runs

runs-back : (rs : List Run) → All Fits (run_dates rs) → total (λ r. r.count) rs ≤ host_limit
    → runs_from (length rs) (field_bytes (run_fields rs)) ≡ rs
unfolding runs_from run_fields field_bytes flat_map low_first number_at total
runs-back [] a h = refl
runs-back (r ∷ rs) (cons fits a) h =
    ap₂ (λ t l. t ∷ l)
    (ap₂ (λ (d n : ℕ). record { date = d; count = n }) (value-back 8 r.date (omega (arith, fits)))
    (value-back 2 r.count (omega (arith, h))))
    (runs-back rs a (omega (arith, h)))

runs-in : (rs : List Run) → All Fits (run_dates rs) → total (λ r. r.count) rs ≤ host_limit → runs_in (field_bytes (run_fields rs)) ≡ rs
runs-in rs a h =
    let many : length (field_bytes (run_fields rs)) / 10 ≡ length rs = omega (arith, runs-long rs) in
    ap (λ (k : ℕ). runs_from k (field_bytes (run_fields rs))) many ∙ runs-back rs a h

-- ---- bytes

sent_back : (ss : List (Sent ℕ)) → sent_in (flight_dates ss) (map (λ s. s.byte) ss) ≡ ss
unfolding sent_in
sent_back [] = refl
sent_back (s ∷ ss) = ap (λ l. s ∷ l) (sent_back ss)

receiving-back : (r : Option (OnTheLine ℕ)) (bs : List ℕ) → receiving_in (frame_mark r) (frame_source r) (line_bytes r ++ bs) ≡ r
unfolding choose
receiving-back none bs = refl
receiving-back (some l) bs = by-heard l.frame.heard refl
  where
    by-heard : (b : Bool) → l.frame.heard ≡ b → receiving_in (frame_mark (some l)) (frame_source (some l)) (l.byte ∷ bs) ≡ some l
    by-heard true e = rw (e, source-back l.frame.timed_on) refl
    by-heard false e = rw (e, source-back l.frame.timed_on) refl

waiting-back : (r : Option (OnTheLine ℕ)) (bs : List ℕ) → waiting_in (frame_mark r) (line_bytes r ++ bs) ≡ bs
unfolding choose
waiting-back none bs = refl
waiting-back (some l) bs = by-heard l.frame.heard
  where
    by-heard : (b : Bool) → waiting_in (choose b 2 1) (l.byte ∷ bs) ≡ bs
    by-heard true = refl
    by-heard false = refl

-- ---- the state

-- the bytes of its parts
abbrev pub seven : Uart ℕ ℕ → List (List ℕ)
seven u =
    field_bytes (map_fields u.map) ∷ field_bytes (word_fields u.control.words) ∷ field_bytes (date_and_mark_fields u) ∷ written u
    ∷ (line_bytes u.receiving ++ u.host) ∷ field_bytes (run_fields u.host_runs) ∷ u.rx ∷ []

parts-bytes : (u : Uart ℕ ℕ) → map bytes_of (parts_of u) ≡ seven u
unfolding parts_of
parts-bytes u =
    rw (
      numbers-bytes (map_fields u.map),
      numbers-bytes (word_fields u.control.words),
      numbers-bytes (date_and_mark_fields u),
      numbers-bytes (run_fields u.host_runs),
      written-bytes (written u),
      host-bytes (line_bytes u.receiving ++ u.host),
      host-bytes u.rx,
    ) refl

pub form-bytes : (u : Uart ℕ ℕ) → bytes_of (form u) ≡ laid_bytes (seven u)
unfolding form
form-bytes u = laid-bytes (parts_of u) ∙ ap laid_bytes (parts-bytes u)

module _ (u : Uart ℕ ℕ) (within : Within u) (wide : Widths u) where
  abbrev fields : List Field
  fields = date_and_mark_fields u

  abbrev bytes : List ℕ
  bytes = field_bytes (date_and_mark_fields u)

  flying-long : length (flight_dates u.in_flight) ≡ length u.in_flight
  flying-long = length-map u.in_flight (λ s. s.gone_at)

  fields-hold : All Holds fields
  unfolding date_and_mark_fields
  fields-hold =
      let last : u.control.last < 256 ^ 8 = omega (arith, within.last) in
      let period : u.control.period < 256 ^ 8 = omega (arith, within.period_high) in
      let raw : (line_of u).int_raw < 256 ^ 4 = omega (arith, wide.int_raw) in
      let free : (line_of u).line_free_at < 256 ^ 8 = omega (arith, within.line_fits) in
      cons last (
      cons (date-mark-fits u.control.wake) (cons (instant-fits (2 ^ 59) u.control.wake (omega arith) within.wake) (
      cons period (
      cons (date-mark-fits u.control.powered_down_at)
      (cons (instant-fits (2 ^ 64 - 1) u.control.powered_down_at (omega arith) wide.powered_down_at) (
      cons (mark-fits u.control.watched) (
      cons (mark-fits u.control.level) (
      cons raw (
      cons (source_fits (line_of u).rx_mistimed) (
      cons (date-mark-fits (line_of u).idle_since)
      (cons (instant-fits (2 ^ 64 - 1) (line_of u).idle_since (omega arith) within.idle_fits) (
      cons free (
      cons (frame-mark-fits u.receiving) (cons (frame-source-fits u.receiving)
      (each_holds 8 (flight_dates u.in_flight) (longs-fit (flight_dates u.in_flight) within.flying_fits))))))))))))))))

  flying-back : flying_in bytes ≡ length u.in_flight
  flying-back = omega (arith, dates-long u)

  dates-back : dates_in bytes ≡ map (λ f. f.value) fields
  unfolding dates_in date_and_mark_fields
  dates-back =
      ap₂ numbers_in
      (ap (λ (k : ℕ). fixed_widths ++ replicate k 8) (flying-back ∙ sym flying-long)
      ∙ ap (λ l. fixed_widths ++ l) (sym (widths 8 (flight_dates u.in_flight))))
      (sym (append-nil bytes))
      ∙ numbers-back fields [] fields-hold

  control-back : control_with u.control.words (map (λ f. f.value) fields) ≡ u.control
  unfolding date_and_mark_fields
  control-back =
      rw (
        date-back u.control.wake,
        date-back u.control.powered_down_at,
        date-back (line_of u).idle_since,
        source-back (line_of u).rx_mistimed,
        mark-back u.control.watched,
        mark-back u.control.level,
      ) refl

  abbrev in_flight_bytes : List ℕ
  in_flight_bytes = map (λ s. s.byte) u.in_flight

  left-long : length (written u) - flying_in bytes ≡ length u.tx
  unfolding written
  left-long =
      omega (arith, flying-back, length-append u.tx in_flight_bytes, length-map u.in_flight (λ s. s.byte))

  state-back : state_with (field_bytes (map_fields u.map)) (field_bytes (word_fields u.control.words)) bytes (written u)
      (line_bytes u.receiving ++ u.host) (field_bytes (run_fields u.host_runs)) u.rx
      ≡ u
  unfolding state_with written date_and_mark_fields
  state-back =
      rw (
        map_back u.map within.sixteen wide.offsets wide.reset wide.idle_status wide.mem_rx_status,
        words_back u.control.words wide.words,
        dates-back,
        left-long,
        control-back,
        values 8 (flight_dates u.in_flight),
        take_at u.tx in_flight_bytes (length u.tx) refl,
        drop_at u.tx in_flight_bytes (length u.tx) refl,
        sent_back u.in_flight,
        receiving-back u.receiving u.host,
        waiting-back u.receiving u.host,
        runs-in u.host_runs within.runs_fit (omega (arith, within.run_sum, within.host)),
      ) refl

  form_small : length (laid_bytes (seven u)) < 65536
  form_small =
      omega (arith, form-largest u within, length-map (form u) byte_of, ap length (form-bytes u))

  pub form-lies : lies (bytes_of (form u)) ≡ true
  form-lies = ap lies (form-bytes u) ∙ parts-lie (seven u) refl form_small

  pub form-back : state_in (bytes_of (form u)) ≡ u
  unfolding state_in
  form-back =
      ap (λ ps. state_with (get_or ps 0 []) (get_or ps 1 []) (get_or ps 2 []) (get_or ps 3 []) (get_or ps 4 []) (get_or ps 5 [])
      (get_or ps 6 []))
      (ap parts_in (form-bytes u) ∙ parts-read (seven u) refl form_small)
      ∙ state-back
