-- Forms and bytes that are none, computed. Assumes nothing.
use Rattle.model.specs.declared.Source.{Source}
use Rattle.std.specs.Prelude.{◌≡◌, refl, ℕ, ◌*◌, ◌<◌, true, false, Some, None}
use Rattle.std.proofs.Common.{arith}
use Rattle.std.proofs.Math.Option.{some}
use mathlib.Core.List.{List, [], ◌∷◌, ◌++◌, flat_map}
use Rattle.model.specs.Numbers.{choose, instant_of}
use Rattle.model.specs.State.{Uart}
use Rattle.model.specs.Events.{total}
use Rattle.model.specs.Calls.{written}
use Rattle.model.specs.Tests.{repeated, among}
use Rattle.model.specs.Limits.{nil, cons}
use Rattle.model.specs.Widths.{Bytes}
use Rattle.form.specs.Cells.{byte_of, bytes_of, low_first, field_bytes, numbers}
use Rattle.form.specs.Form.{map_fields, word_fields, date_and_mark_fields, run_fields, parts_of, pairs_from, laid_out, form}
use Rattle.form.specs.Read.{value_of, number_at, numbers_in, parts_from, map_in, dates_in, sent_in, runs_from, state_with, state_in}
use Rattle.form.specs.Tests.{chained, every, all_pass, limits, is_within}
use Rattle.form.specs.Load.{pairs_lie, lies, same_bytes, is_form, loaded, refused, load}
use Rattle.model.specs.declared.Words.{Words}
use Rattle.form.specs.declared.NotLoaded.TheVariants.{Layout, NoState}

-- a head whose parts have no length: the count, the first offset, and that of each part after it
abbrev bare_head : ℕ → ℕ → ℕ → List ℕ
bare_head count first other =
    count ∷ 0 ∷ first ∷ 0 ∷ 0 ∷ 0 ∷ other ∷ 0 ∷ 0 ∷ 0 ∷ other ∷ 0 ∷ 0 ∷ 0 ∷ other ∷ 0 ∷ 0 ∷ 0 ∷ other ∷ 0 ∷ 0 ∷ 0
    ∷ other ∷ 0 ∷ 0 ∷ 0 ∷ other ∷ 0 ∷ 0 ∷ 0 ∷ []

-- seven parts of no length: they lie as they must, and are the form of no state
abbrev pub no_parts : List ℕ
no_parts = bare_head 7 30 30

pub no-parts : load no_parts ≡ refused NoState
unfolding load lies pairs_lie number_at value_of choose is_form is_within limits all_pass state_in state_with map_in numbers_in parts_from
    repeated among
no-parts = refl

pub no_bytes : load [] ≡ refused Layout
unfolding load lies choose
no_bytes = refl

no_part : (l : List ℕ) → Bytes l → Bytes (30 ∷ 0 ∷ 0 ∷ 0 ∷ l)
no_part l a =
    let thirty : 30 < 256 = omega arith in
    let zero : 0 < 256 = omega arith in
    cons thirty (cons zero (cons zero (cons zero a)))

pub no-parts-bytes : Bytes no_parts
no-parts-bytes =
    let seven : 7 < 256 = omega arith in
    let zero : 0 < 256 = omega arith in
    cons seven (cons zero (no_part _ (no_part _ (no_part _ (no_part _ (no_part _ (no_part _ (no_part _ nil))))))))

-- ---- bytes that do not lie as a form does

-- fewer bytes than a count and seven pairs
one_byte : load (7 ∷ []) ≡ refused Layout
unfolding load lies pairs_lie number_at value_of choose
one_byte = refl

-- a count of eight
eight-parts : load (bare_head 8 30 30) ≡ refused Layout
unfolding load lies pairs_lie number_at value_of choose
eight-parts = refl

-- parts that begin in the pairs
no-offsets : load (bare_head 7 0 0) ≡ refused Layout
unfolding load lies pairs_lie number_at value_of choose
no-offsets = refl

-- a byte after the last part
byte-after : load (bare_head 7 30 30 ++ (0 ∷ [])) ≡ refused Layout
unfolding load lies pairs_lie number_at value_of choose
byte-after = refl

-- a gap before the second part
gap-after : load (bare_head 7 30 31) ≡ refused Layout
unfolding load lies pairs_lie number_at value_of choose
gap-after = refl

-- a first part that does not follow the pairs
late-first : load (bare_head 7 31 31 ++ (0 ∷ [])) ≡ refused Layout
unfolding load lies pairs_lie number_at value_of choose
late-first = refl

-- ---- a form written by hand: docs/FORM.md says what each of its bytes is

lunch_words : Words
lunch_words = record {
  int_ena = 0;
  clkdiv = 0x80000A;
  conf0 = 0x1C;
  conf1 = 0xC060;
  clk_conf = 0x2300000;
  idle_conf = 0;
  rs485_conf = 0;
  at_cmd_char = 0;
  mem_conf = 0xA0012;
}

-- two host bytes were handed over for cycle 100 and one was written at 110: the first is on the line until 520, the one written has gone at
-- 530
lunch : Uart ℕ ℕ
lunch = record {
  map = record {
    offsets = 0 ∷ 4 ∷ 8 ∷ 12 ∷ 16 ∷ 20 ∷ 24 ∷ 28 ∷ 32 ∷ 36 ∷ 40 ∷ 44 ∷ 48 ∷ 52 ∷ 56 ∷ 60 ∷ [];
    reset = lunch_words;
    idle_status = 0;
    mem_rx_status = 0;
  };
  control = record {
    words = lunch_words;
    line = record { int_raw = 2; rx_mistimed = Source.None; idle_since = None; line_free_at = 520 * 32 };
    period = 8;
    last = 110;
    wake = Some 520;
    watched = false;
    powered_down_at = None;
    level = false;
  };
  in_flight = record { gone_at = 530 * 32; byte = 0x41 } ∷ [];
  tx = [];
  host = 0x66 ∷ [];
  host_runs = record { date = 100 * 32; count = 1 } ∷ [];
  receiving = some (record { byte = 0x55; frame = record { timed_on = Source.None; heard = true } });
  rx = [];
}

lunch_form : List ℕ
lunch_form =
    7 ∷ 0 ∷ 30 ∷ 0 ∷ 108 ∷ 0 ∷ 138 ∷ 0 ∷ 36 ∷ 0 ∷ 174 ∷ 0 ∷ 68 ∷ 0 ∷ 242 ∷ 0
    ∷ 1 ∷ 0 ∷ 243 ∷ 0 ∷ 2 ∷ 0 ∷ 245 ∷ 0 ∷ 10 ∷ 0 ∷ 255 ∷ 0 ∷ 0 ∷ 0
    ∷ 0 ∷ 0 ∷ 0 ∷ 0 ∷ 4 ∷ 0 ∷ 0 ∷ 0 ∷ 8 ∷ 0 ∷ 0 ∷ 0 ∷ 12 ∷ 0 ∷ 0 ∷ 0
    ∷ 16 ∷ 0 ∷ 0 ∷ 0 ∷ 20 ∷ 0 ∷ 0 ∷ 0 ∷ 24 ∷ 0 ∷ 0 ∷ 0 ∷ 28 ∷ 0 ∷ 0 ∷ 0
    ∷ 32 ∷ 0 ∷ 0 ∷ 0 ∷ 36 ∷ 0 ∷ 0 ∷ 0 ∷ 40 ∷ 0 ∷ 0 ∷ 0 ∷ 44 ∷ 0 ∷ 0 ∷ 0
    ∷ 48 ∷ 0 ∷ 0 ∷ 0 ∷ 52 ∷ 0 ∷ 0 ∷ 0 ∷ 56 ∷ 0 ∷ 0 ∷ 0 ∷ 60 ∷ 0 ∷ 0 ∷ 0
    ∷ 0 ∷ 0 ∷ 0 ∷ 0 ∷ 10 ∷ 0 ∷ 128 ∷ 0 ∷ 0 ∷ 0 ∷ 0 ∷ 0 ∷ 28 ∷ 0 ∷ 0 ∷ 0
    ∷ 96 ∷ 192 ∷ 0 ∷ 0 ∷ 0 ∷ 0 ∷ 48 ∷ 2 ∷ 0 ∷ 0 ∷ 0 ∷ 0 ∷ 0 ∷ 0 ∷ 0 ∷ 0
    ∷ 0 ∷ 0 ∷ 0 ∷ 0 ∷ 18 ∷ 0 ∷ 10 ∷ 0 ∷ 0 ∷ 0 ∷ 0 ∷ 0
    ∷ 0 ∷ 0 ∷ 0 ∷ 0 ∷ 10 ∷ 0 ∷ 128 ∷ 0 ∷ 28 ∷ 0 ∷ 0 ∷ 0 ∷ 96 ∷ 192 ∷ 0 ∷ 0
    ∷ 0 ∷ 0 ∷ 48 ∷ 2 ∷ 0 ∷ 0 ∷ 0 ∷ 0 ∷ 0 ∷ 0 ∷ 0 ∷ 0 ∷ 0 ∷ 0 ∷ 0 ∷ 0
    ∷ 18 ∷ 0 ∷ 10 ∷ 0
    ∷ 110 ∷ 0 ∷ 0 ∷ 0 ∷ 0 ∷ 0 ∷ 0 ∷ 0 ∷ 1 ∷ 8 ∷ 2 ∷ 0 ∷ 0 ∷ 0 ∷ 0 ∷ 0
    ∷ 0 ∷ 8 ∷ 0 ∷ 0 ∷ 0 ∷ 0 ∷ 0 ∷ 0 ∷ 0 ∷ 0 ∷ 0 ∷ 0 ∷ 0 ∷ 0 ∷ 0 ∷ 0
    ∷ 0 ∷ 0 ∷ 0 ∷ 0 ∷ 2 ∷ 0 ∷ 0 ∷ 0 ∷ 0 ∷ 0 ∷ 0 ∷ 0 ∷ 0 ∷ 0 ∷ 0 ∷ 0
    ∷ 0 ∷ 0 ∷ 0 ∷ 65 ∷ 0 ∷ 0 ∷ 0 ∷ 0 ∷ 0 ∷ 0 ∷ 2 ∷ 0 ∷ 64 ∷ 66 ∷ 0 ∷ 0
    ∷ 0 ∷ 0 ∷ 0 ∷ 0
    ∷ 65
    ∷ 85 ∷ 102
    ∷ 128 ∷ 12 ∷ 0 ∷ 0 ∷ 0 ∷ 0 ∷ 0 ∷ 0 ∷ 1 ∷ 0 ∷ []

lunch-form : bytes_of (form lunch) ≡ lunch_form
unfolding lunch lunch_words lunch_form form laid_out parts_of pairs_from map_fields word_fields date_and_mark_fields run_fields numbers
    field_bytes low_first byte_of flat_map written choose instant_of
lunch-form = refl

lunch-loads : load lunch_form ≡ loaded lunch
unfolding lunch lunch_words lunch_form form laid_out parts_of pairs_from map_fields word_fields date_and_mark_fields run_fields numbers
    field_bytes low_first byte_of flat_map written choose instant_of load lies pairs_lie number_at value_of same_bytes is_form is_within
    limits all_pass chained every state_in state_with map_in dates_in numbers_in parts_from sent_in runs_from repeated among total
lunch-loads = refl
