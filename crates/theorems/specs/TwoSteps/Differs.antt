-- In the exception a look in between can tell: a state within the limits whose timeout one settling raises at its date, and none
-- raises at that date after a settling as the byte on the line lands. Assumes nothing.
use Rattle.model.specs.declared.Source.{Source}
use Rattle.std.specs.Prelude.{◌≡◌, refl, ℕ, ◌+◌, ◌*◌, ◌^◌, false, [], ◌∷◌, Some, None}
use Rattle.std.proofs.Common.{sym, ap, ◌∙◌, arith}
use Rattle.std.proofs.lemmas.Bool.{false≢true}
use Rattle.std.proofs.Math.Option.{some}
use Rattle.model.specs.Numbers.{choose, due_by, instant_of, earliest}
use Rattle.model.specs.State.{Uart, line_of}
use Rattle.model.specs.Events.{total, goes_on}
use Rattle.model.specs.Timing.{stop_half_bits, frame_half_bits, source_period, unmodelled, unmodelled_source, half_bit_time, bit_time}
use Rattle.model.specs.Timing.{byte_time, timeout_time, settings}
use Rattle.model.specs.Line.{raise_if, note_source, after_date, opened, timeout_at, time_out, frame, start, fate, land}
use Rattle.model.specs.Settle.{gone, tx_done, leave, depart, pop_run, received, nothing_due, timed_out, landed, in_frame, begun}
use Rattle.model.specs.Settle.{before_start, idle, line_free, pass_on, pass, on_the_line, passes_from, pending, passes}
use Rattle.model.specs.Settle.{above_full, in_fifo, empty_threshold, below_empty, assert_levels, int_status, drive}
use Rattle.model.specs.Settle.{settling_date, levels, leveled, settings_of, settle_to, settle}
use Rattle.model.specs.Tests.{among, repeated}
use Rattle.model.specs.Limits.{nil, cons, empty, single, Within}
use Rattle.theorems.specs.TwoSteps.Exception.{Exception}
use Rattle.model.proofs.Keeps.Parts.{is_heard}
use Rattle.model.specs.declared.Words.{Words}

-- the receiver's clock on, source 3, the timeout enabled and 10 bits long: a frame lasts 28 cycles, the timeout 40
abbrev words : Words
words = record {
  int_ena = 0;
  clkdiv = 1;
  conf0 = 0;
  conf1 = 2 ^ 21;
  clk_conf = 2 ^ 25 + 3 * 2 ^ 20;
  idle_conf = 0;
  rs485_conf = 0;
  at_cmd_char = 0;
  mem_conf = 10 * 2 ^ 16;
}

-- one byte is held, one that is not heard lands at cycle 28, one waits; the idle line is open since 0
abbrev pub looked : Uart ℕ ℕ
looked = record {
  map =
      record {
        offsets = 0 ∷ 1 ∷ 2 ∷ 3 ∷ 4 ∷ 5 ∷ 6 ∷ 7 ∷ 8 ∷ 9 ∷ 10 ∷ 11 ∷ 12 ∷ 13 ∷ 14 ∷ 15 ∷ [];
        reset = words;
        idle_status = 0;
        mem_rx_status = 0;
      };
  control = record {
    words = words;
    line = record { int_raw = 2; rx_mistimed = Source.None; idle_since = Some 0; line_free_at = 896 };
    period = 8;
    last = 0;
    wake = None;
    watched = false;
    powered_down_at = None;
    level = false;
  };
  in_flight = [];
  tx = [];
  host = 3 ∷ [];
  host_runs = record { date = 0; count = 1 } ∷ [];
  receiving = some (record { byte = 2; frame = record { timed_on = Source.None; heard = false } });
  rx = 1 ∷ [];
}

pub looked-within : Within looked
unfolding repeated among total
looked-within = record {
  sixteen = refl;
  offsets = refl;
  period_low = omega arith;
  period_high = omega arith;
  last = omega arith;
  wake = tt;
  flying = omega arith;
  flying_dates = empty;
  sent = omega arith;
  received = omega arith;
  runs = omega arith;
  run_count = cons {a = 1} (omega arith) nil;
  run_order = single;
  run_sum = refl;
  host = omega arith;
  status = refl;
  idle_line = λ l e h. absurd (false≢true (ap is_heard e ∙ h));
  flying_fits = nil;
  runs_fit = cons {a = 0} (omega arith) nil;
  line_fits = omega arith;
  idle_fits = omega arith;
}

pub looked-exception : Exception looked
unfolding settings_of settings
looked-exception = (_, refl, refl, 0, refl, refl)

-- RXFIFO_TOUT, bit 8, is raised
one-step : (line_of (settle 40 looked).state).int_raw ≡ 259
unfolding stop_half_bits frame_half_bits source_period unmodelled unmodelled_source half_bit_time bit_time byte_time timeout_time settings
    raise_if note_source after_date opened timeout_at time_out frame start fate land choose due_by instant_of goes_on gone tx_done leave
    depart pop_run received nothing_due timed_out landed in_frame begun before_start idle line_free pass_on pass on_the_line passes_from
    pending passes above_full in_fifo empty_threshold below_empty assert_levels int_status drive earliest settling_date levels leveled
    settings_of settle_to settle
one-step = refl

-- the byte that lands at 28 lets the next one start, and that closes the idle line
two_steps : (line_of (settle 40 (settle 28 looked).state).state).int_raw ≡ 3
unfolding stop_half_bits frame_half_bits source_period unmodelled unmodelled_source half_bit_time bit_time byte_time timeout_time settings
    raise_if note_source after_date opened timeout_at time_out frame start fate land choose due_by instant_of goes_on gone tx_done leave
    depart pop_run received nothing_due timed_out landed in_frame begun before_start idle line_free pass_on pass on_the_line passes_from
    pending passes above_full in_fifo empty_threshold below_empty assert_levels int_status drive earliest settling_date levels leveled
    settings_of settle_to settle
two_steps = refl

pub looked-differs : ¬ ((settle 40 (settle 28 looked).state).state ≡ (settle 40 looked).state)
looked-differs e =
    let z : ◌≡◌ {A = ℕ} 3 259 = sym two_steps ∙ ap (λ u. (line_of u).int_raw) e ∙ one-step in
    omega arith
