-- Rows on the bench, with the answers that N1's sentences give, as rows of one list, and one claim over the list. Assumes nothing.
use Rattle.std.specs.Prelude.{◌≡◌, refl, ℕ, length, replicate, Some, Ok}
use Rattle.std.proofs.Math.Bool.{decide}
use mathlib.Core.List.{List, [], ◌∷◌, map, flat_map}
use Rattle.model.specs.Numbers.{choose, due_by, instant_of, only_if, earliest, in_cycles}
use Rattle.model.specs.State.{Uart}
use Rattle.model.specs.Events.{total, goes_on, one_pass, lost, passes_in, overflows_in}
use Rattle.model.specs.Timing.{stop_half_bits, frame_half_bits, source_period, unmodelled, unmodelled_source, half_bit_time, bit_time}
use Rattle.model.specs.Timing.{byte_time, timeout_time, settings}
use Rattle.model.specs.Line.{raise_if, note_source, after_date, opened, timeout_at, time_out, frame, start, fate, land}
use Rattle.model.specs.Settle.{gone, tx_done, leave, depart, pop_run, received, nothing_due, timed_out, landed, in_frame, begun}
use Rattle.model.specs.Settle.{before_start, idle, line_free, pass_on, pass, on_the_line, passes_from, pending}
use Rattle.model.specs.Settle.{departures, passes, above_full, in_fifo, empty_threshold, below_empty, assert_levels, int_status, drive}
use Rattle.model.specs.Settle.{settling_date, levels, leveled, settings_of, settle_to, settle}
use Rattle.model.specs.Arm.{called, nth_gone, last_gone, below_threshold_at, next_start, landing_of, next_landing, instants}
use Rattle.model.specs.Arm.{arm_all, arm}
use Rattle.model.specs.Replies.{number, notices, no_report, report, read_number, write_number}
use Rattle.model.specs.Replies.{done_number, taken_number, notice_numbers}
use Rattle.model.specs.Map.{registers, register_among}
use Rattle.model.specs.Map.{register_of, value_of, place_among, words_by, replaced}
use Rattle.model.specs.Registers.{note_if, source_notes, status_word, looks, pop, shown_in, read_register, read_looking, read_at}
use Rattle.model.specs.Registers.{conf0_notes, stored_notes, starts_at, gone_at, sent, dropped, send_byte, reset_fifos, storing, clearing}
use Rattle.model.specs.Registers.{write_register, concluded}
use Rattle.model.specs.Registers
use Rattle.model.specs.Tests.{among, repeated, transmit_full, host_full, runs_full}
use Rattle.model.specs.Tests.{refuse_if, refuse_date}
use Rattle.model.specs.Calls.{dated, refusing, unless, after_settling, carried, outcome, joined, last_date, host_date, quiet, read_placed}
use Rattle.model.specs.Calls.{write_placed, send, hand_over, write_at}
use Rattle.model.specs.Calls
use Rattle.model.specs.Row
use Rattle.model.specs.Row.{left_by, summed, first_test, row, counted, counted_all, times_of}
use Rattle.model.specs.SetUp.{words_among, map_of, new_control, new}
use Rattle.model.specs.Call.{receive, at, date_of}
use Rattle.model.specs.Run.{number_of, stepped, replying, plan_by, writing, plan, step}
use Rattle.model.specs.Names.{Date}
use Rattle.model.specs.declared.Unsupported.{Unsupported}
use Rattle.model.specs.declared.Unsupported.TheVariants.{UartOverflow, UartClock}
use Rattle.model.specs.Marks.{bench_words, offset, bench, Hold}
use Rattle.model.specs.Names as Declared

-- a source without a frequency, and a divider of 0
unfoldable pub sourceless : Uart ℕ ℕ
sourceless =
    new (map offset registers) (0 ∷ 0 ∷ 0 ∷ 0 ∷ 0 ∷ 0x0080000A ∷ 0 ∷ 0 ∷ 0x1C ∷ 0xC060 ∷ 0x02000000 ∷ 0 ∷ 0 ∷ 0 ∷ 0x000A0012 ∷ 0 ∷ [])

unfoldable pub undivided : Uart ℕ ℕ
undivided = new (map offset registers) (0 ∷ 0 ∷ 0 ∷ 0 ∷ 0 ∷ 0 ∷ 0 ∷ 0 ∷ 0x1C ∷ 0xC060 ∷ 0x02300000 ∷ 0 ∷ 0 ∷ 0 ∷ 0x000A0012 ∷ 0 ∷ [])

-- a row's reply, its passes and overflows, its wake and its notices
abbrev pub told : ℕ → List ℕ → Uart ℕ ℕ → Declared.Row × ℕ × ℕ × Date × List Unsupported
told now bs u =
    let x = row now bs u in
    (x.reply, x.report.passes, x.report.overflows, x.report.wake, Row.notes_of x.report)

-- how many bytes have left, and how many are in flight
abbrev pub sides : Uart ℕ ℕ → ℕ × ℕ
sides u = (length u.tx, length u.in_flight)

abbrev pub made : ℕ → ℕ → ℕ → Declared.Row
made n first second = Ok (record { count = n; first = first; second = second })

unfoldable pub row_marks : List (Type 0)
row_marks =
    -- three bytes at 100: each makes its pass, and the wake is the first departure's
    (told 100 (0x41 ∷ 0x42 ∷ 0x43 ∷ []) bench ≡ (made 3 0 0, 3, 0, Some 520, []))
    -- the 130th is dropped, and made
    ∷ (told 100 (replicate 130 7) bench ≡ (made 130 1 0, 130, 0, Some 520, UartOverflow ∷ []))
    -- a clock's notice for each byte that is sent, and then those that are dropped
    ∷ (told 0 (replicate 131 7) sourceless ≡ (made 131 129 2, 131, 0, Some 420, UartClock 0 ∷ UartOverflow ∷ []))
    -- the first write settles: 130 host bytes land, two are lost; the second makes one pass
    ∷ (told 55000 (1 ∷ 2 ∷ []) (step (at 0 (receive 0 (replicate 130 7))) bench).state ≡ (made 2 0 0, 132, 2, Some 420, []))
    -- with a divider of 0 each byte leaves as the next is written
    ∷ (sides (row 0 (1 ∷ 2 ∷ 3 ∷ []) undivided).state ≡ (2, 1))
    ∷ []

pub row-marks-hold : Hold row_marks
unfolding row_marks sourceless undivided Row.writes left_by summed first_test row counted counted_all times_of flat_map notice_numbers
    bench_words bench Hold choose due_by instant_of only_if earliest in_cycles stop_half_bits frame_half_bits source_period unmodelled
    unmodelled_source half_bit_time bit_time byte_time timeout_time settings raise_if note_source after_date opened timeout_at time_out
    frame start fate land gone tx_done leave depart pop_run received nothing_due timed_out landed in_frame begun before_start idle line_free
    pass_on pass total goes_on one_pass lost passes_in overflows_in on_the_line passes_from pending departures passes above_full in_fifo
    empty_threshold below_empty assert_levels int_status drive settling_date levels leveled settings_of settle_to settle called nth_gone
    last_gone below_threshold_at next_start landing_of next_landing instants arm_all arm number notices no_report report read_number
    write_number done_number taken_number register_among register_of place_among decide value_of words_by replaced note_if source_notes
    status_word Registers.fsm_status looks pop shown_in read_register read_looking read_at conf0_notes stored_notes starts_at gone_at sent
    dropped send_byte reset_fifos storing clearing write_register concluded among repeated transmit_full host_full runs_full refuse_if
    refuse_date refusing unless after_settling carried outcome joined last_date host_date dated quiet read_placed write_placed send
    hand_over Calls.receive Calls.machine write_at Calls.read Calls.write words_among map_of new_control new number_of date_of stepped
    replying plan_by writing plan step
row-marks-hold = (refl, (refl, (refl, (refl, (refl, tt)))))
