-- Document 01's marked lines P1 to P10 on its bench settings, as rows of one list, and one claim over the list.
-- Assumes nothing.
use Rattle.std.specs.Prelude.{◌≡◌, refl, ℕ, ◌*◌, List, [], ◌∷◌, ◌++◌, map, take, drop, replicate, Some, Ok, true}
use Rattle.std.proofs.Math.Bool.{decide}
use Rattle.model.specs.Numbers.{choose, due_by, instant_of, only_if, earliest, in_cycles}
use Rattle.model.specs.State.{Uart}
use Rattle.model.specs.Events.{total, goes_on, one_pass, lost, passes_in, overflows_in}
use Rattle.model.specs.Timing.{stop_half_bits, frame_half_bits, source_period, unmodelled, unmodelled_source, half_bit_time, bit_time}
use Rattle.model.specs.Timing.{byte_time, timeout_time, settings}
use Rattle.model.specs.Line.{raise_if, note_source, after_date, opened, timeout_at, time_out, frame, start, fate, land}
use Rattle.model.specs.Settle.{gone, tx_done, leave, depart, pop_run, received, nothing_due, timed_out, landed, in_frame, begun}
use Rattle.model.specs.Settle.{before_start, idle, line_free, pass_on, pass, on_the_line, passes_from, pending}
use Rattle.model.specs.Settle.{departures, passes, above_full, in_fifo, empty_threshold, below_empty, assert_levels, int_status, drive}
use Rattle.model.specs.Settle.{settling_date, levels, leveled, settings_of, settle_to, settle}
use Rattle.model.specs.Arm.{called, nth_gone, last_gone, below_threshold_at, next_start, landing_of, next_landing, instants}
use Rattle.model.specs.Arm.{arm_all, arm}
use Rattle.model.specs.Replies.{number, notices, no_report, report, word, byte, read_number, write_number}
use Rattle.model.specs.Replies.{done_number, taken_number}
use Rattle.model.specs.Map.{Register, fifo, int_clr, shown, stored, conf1, int_raw, status, fsm_status, registers, register_among}
use Rattle.model.specs.Map.{register_of, value_of, place_among, words_by, replaced}
use Rattle.model.specs.Registers.{note_if, source_notes, status_word, looks, pop, shown_in, read_register, read_looking, read_at}
use Rattle.model.specs.Registers.{conf0_notes, stored_notes, starts_at, gone_at, sent, dropped, send_byte, reset_fifos, storing, clearing}
use Rattle.model.specs.Registers.{write_register, concluded}
use Rattle.model.specs.Registers
use Rattle.model.specs.Tests.{among, repeated, transmit_full, host_full, runs_full}
use Rattle.model.specs.Tests.{refuse_if, refuse_date}
use Rattle.model.specs.Calls.{dated, refusing, unless, after_settling, carried, outcome, joined, last_date, host_date, quiet, read_placed}
use Rattle.model.specs.Calls.{write_placed, send, hand_over, write_at}
use Rattle.model.specs.Calls
use Rattle.model.specs.SetUp.{words_among, map_of, new_control, new}
use Rattle.model.specs.Call.{wake, Dated, receive, machine, Call, date_of, Written, Asked, Ask, Reply, reads, writes, does}
use Rattle.model.specs.Run.{number_of, stepped, replying, plan_by, writing, plan, step, asked_by, run_by, asked, run}
use Rattle.model.specs.Names.{Date}
use Rattle.model.specs.declared.Unsupported.{Unsupported}
use Rattle.model.specs.declared.Unsupported.TheVariants.{UartOverflow, UartEmptyRead}

-- ---- the bench: offsets 4 × place, reset words 0 but five

unfoldable pub bench_words : List ℕ
bench_words = 0 ∷ 0 ∷ 0 ∷ 0 ∷ 0 ∷ 0x0080000A ∷ 0 ∷ 0 ∷ 0x1C ∷ 0xC060 ∷ 0x02300000 ∷ 0 ∷ 0 ∷ 0 ∷ 0x000A0012 ∷ 0 ∷ []

abbrev pub offset : Register → ℕ
offset r = 4 * place_among r registers

unfoldable pub bench : Uart ℕ ℕ
bench = new (map offset registers) bench_words

-- ---- what calls on the bench answer, call by call

abbrev pub at : ℕ → Dated ℕ Written ℕ ℕ → Ask
at now c = Asked.call (Call.at now c)

abbrev pub read : ℕ → Register → Ask
read now r = at now (Dated.read (offset r))

abbrev pub write : ℕ → Register → ℕ → Ask
write now r v = at now (Dated.write (record { offset = offset r; value = v }))

abbrev pub value : ℕ → Reply ℕ ℕ ℕ
value n = reads (word n)

abbrev pub replies : List Ask → List (Reply ℕ ℕ ℕ)
replies cs = map (λ a. a.reply) (run cs bench)

-- with the notices of each, and with the wake that it leaves
abbrev pub noted : List Ask → List (Reply ℕ ℕ ℕ × List Unsupported)
noted cs = map (λ a. (a.reply, map (λ n. n.what) (take a.report.noted a.report.notices))) (run cs bench)

abbrev pub wakes : List Ask → List (Reply ℕ ℕ ℕ × Date)
wakes cs = map (λ a. (a.reply, a.report.wake)) (run cs bench)

-- ---- the rows

-- every row holds
unfoldable pub Hold : List (Type 0) → Type 0
Hold [] = Unit {0}
Hold (row ∷ rows) = row × Hold rows

-- P7's calls: the timeout enabled, and a byte received at 100
unfoldable pub p7 : List Ask
p7 = write 0 (stored conf1) 0x20C060 ∷ at 100 (receive 100 (0x55 ∷ [])) ∷ []

unfoldable pub marks : List (Type 0)
marks =
    -- P1: half bits
    (map frame_half_bits (0 ∷ 0x1C ∷ 0x2C ∷ 0x3E ∷ []) ≡ 14 ∷ 20 ∷ 21 ∷ 24 ∷ [])
    -- P2: a bit and a byte in subcycles
    ∷ (bit_time (words_among bench_words) 8 ≡ 1344) ∷ (byte_time (words_among bench_words) 8 ≡ 13440)
    -- P3: one byte sent
    ∷ (replies (write 100 fifo 0x41 ∷ read 519 (shown fsm_status) ∷ read 520 (shown fsm_status) ∷ read 520 (shown int_raw) ∷ [])
    ≡ writes (Ok true) ∷ value 0x10 ∷ value 0 ∷ value 0x4002 ∷ [])
    -- P4: 129 writes, and the 130th
    ∷ (noted (replicate 129 (write 100 fifo 0x41) ++ read 100 (shown status) ∷ write 100 fifo 0x42 ∷ read 100 (shown status) ∷ [])
    ≡ replicate 129 (writes (Ok true), []) ++ (value 0x00800000, []) ∷ (writes (Ok true), UartOverflow ∷ []) ∷ (value 0x00800000, []) ∷ [])
    -- P5: the wake after P4's 130 writes
    ∷ (drop 130 (wakes (replicate 130 (write 100 fifo 0x41)
    ++ write 100 int_clr 2 ∷ read 100 (shown int_raw) ∷ at 520 (machine wake) ∷ read 13960 (shown int_raw) ∷ []))
    ≡ (writes (Ok true), Some 520) ∷ (value 0, Some 520) ∷ (does (Ok tt), Some 13960) ∷ (value 2, Some 13960) ∷ [])
    -- P6: one byte received
    ∷ (noted (at 100 (receive 100 (0x55 ∷ [])) ∷ read 519 (shown status) ∷ read 520 (shown status) ∷ read 520 fifo ∷ read 520 fifo ∷ [])
    ≡ (does (Ok tt), []) ∷ (value 0, []) ∷ (value 1, []) ∷ (reads (byte 0x55), []) ∷ (value 0, UartEmptyRead ∷ []) ∷ [])
    -- P7: the receive timeout
    ∷ (replies (p7 ++ read 939 (shown int_raw) ∷ read 940 (shown int_raw) ∷ [])
    ≡ writes (Ok true) ∷ does (Ok tt) ∷ value 2 ∷ value 0x102 ∷ [])
    -- P8: a second byte at the timeout, and one cycle before it
    ∷ (drop 2 (replies (p7 ++ at 100 (receive 940 (0x56 ∷ [])) ∷ read 940 (shown int_raw) ∷ [])) ≡ does (Ok tt) ∷ value 0x102 ∷ [])
    ∷ (drop 2 (replies (p7 ++ at 100 (receive 939 (0x56 ∷ [])) ∷ read 940 (shown int_raw) ∷ read 1358 (shown status)
    ∷ read 1359 (shown status) ∷ read 1778 (shown int_raw) ∷ read 1779 (shown int_raw) ∷ []))
    ≡ does (Ok tt) ∷ value 2 ∷ value 1 ∷ value 2 ∷ value 2 ∷ value 0x102 ∷ [])
    -- P9: RXFIFO_FULL at its threshold of 96, and above; and each of the 97 landings is a pass
    ∷ (replies (at 0 (receive 0 (replicate 97 7)) ∷ read 40320 (shown status) ∷ read 40320 (shown int_raw) ∷ read 40740 (shown status)
    ∷ read 40740 (shown int_raw) ∷ []) ≡ does (Ok tt) ∷ value 96 ∷ value 2 ∷ value 97 ∷ value 3 ∷ [])
    ∷ (map (λ a. a.report.passes) (run (at 0 (receive 0 (replicate 97 7)) ∷ read 40740 (shown status) ∷ []) bench) ≡ 1 ∷ 98 ∷ [])
    -- P10: the host queue's last free byte
    ∷ (map (λ n. number_of (asked (at 0 (receive 0 (replicate n 7))) bench).answer.reply) (1024 ∷ 1025 ∷ []) ≡ 0 ∷ 5 ∷ [])
    ∷ []

pub marks-hold : Hold marks
unfolding bench_words bench Hold p7 marks choose due_by instant_of only_if earliest in_cycles stop_half_bits frame_half_bits source_period
    unmodelled unmodelled_source half_bit_time bit_time byte_time timeout_time settings raise_if note_source after_date opened timeout_at
    time_out frame start fate land gone tx_done leave depart pop_run received nothing_due timed_out landed in_frame begun before_start idle
    line_free pass_on pass total goes_on one_pass lost passes_in overflows_in on_the_line passes_from pending departures passes above_full
    in_fifo empty_threshold below_empty assert_levels int_status drive settling_date levels leveled settings_of settle_to settle called
    nth_gone last_gone below_threshold_at next_start landing_of next_landing instants arm_all arm number notices no_report report
    read_number write_number done_number taken_number register_among register_of place_among decide value_of words_by replaced note_if
    source_notes status_word Registers.fsm_status looks pop shown_in read_register read_looking read_at conf0_notes stored_notes starts_at
    gone_at sent dropped send_byte reset_fifos storing clearing write_register concluded among repeated transmit_full host_full runs_full
    refuse_if refuse_date refusing unless after_settling carried outcome joined last_date host_date dated quiet read_placed write_placed
    send hand_over Calls.receive Calls.machine write_at Calls.read Calls.write words_among map_of new_control new number_of date_of stepped
    replying plan_by writing plan step asked_by run_by
marks-hold = (refl, (refl, (refl, (refl, (refl, (refl, (refl, (refl, (refl, (refl, (refl, (refl, (refl, tt)))))))))))))
