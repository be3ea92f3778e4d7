-- Register access, after settling. Assumes nothing.
use Rattle.std.specs.Prelude.{ℕ, ◌*◌, ◌^◌, Bool, true, false, not, ◌&&◌, ◌||◌, List, [], ◌∷◌, ◌++◌, ltb, eqb, length, take, Some, None, Ok}
use Rattle.std.specs.Int.Bits.{bit_or}
use Rattle.dates.specs.Dates.{after, subcycles, later}
use Rattle.model.specs.Numbers.{choose, field, bit, without}
use Rattle.model.specs.State.{Uart, line_of}
use Rattle.model.specs.Setters.{with_int_raw, with_mistimed, with_words, with_control, with_in_flight, with_rx, with_line_of}
use Rattle.model.specs.Timing.{byte_time, unmodelled_source}
use Rattle.model.specs.Line.{fifo_bytes}
use Rattle.model.specs.Settle.{in_fifo, int_status, levels}
use Rattle.model.specs.Arm.{arm, last_gone}
use Rattle.model.specs.Replies.{ReadOf, word, byte, no_value}
use Rattle.model.specs.Map.{Word, Shown, Register, fifo, int_clr, unknown, shown, stored, same_word, same_register, value_of, replaced}
use Rattle.model.specs.Names.{Date, Write}
use Rattle.model.specs.declared.Source.{Source}
use Rattle.model.specs.declared.Feature.TheVariants.{Loopback, InvertedRx, Autobaud, NoStopBit, FifoSize, Rs485, TxFlowControl}
use Rattle.model.specs.declared.Feature.TheVariants.{RxFlowControl, InvertedTx, Irda, TxBreak}
use Rattle.model.specs.declared.Unsupported.{Unsupported}
use Rattle.model.specs.declared.Unsupported.TheVariants.{UartOverflow, UartEmptyRead, UartClock, UartReceiveClock, UartFeature}

-- ---- notices

unfoldable pub note_if : Bool → Unsupported → List Unsupported → List Unsupported
note_if true n ns = n ∷ ns
note_if false n ns = ns

-- a source without a frequency gives a notice with its SCLK_SEL
unfoldable pub source_notes : (ℕ → Unsupported) → Source → List Unsupported
source_notes notice Source.None = []
source_notes notice Source.Sel0 = notice 0 ∷ []
source_notes notice Source.Sel2 = notice 2 ∷ []

-- what an access gives beside the report of its settling
pub record Access (R H W : Type 0) : Type 0 where
  pub reply : R
  pub notes : List Unsupported
  pub state : Uart H W

-- an access by its parts
abbrev pub gives : {R H W : Type 0} → List Unsupported → Uart H W → R → Access R H W
gives ns u r = record { reply = r; notes = ns; state = u }

-- ---- read

-- STATUS: RXFIFO_CNT in bits 0-9, TXFIFO_CNT in bits 16-25
unfoldable pub status_word : ℕ → ℕ → ℕ → ℕ
status_word idle flying held = bit_or (bit_or idle (in_fifo flying * 2 ^ 16)) held

-- FSM_STATUS: ST_UTX_OUT, bits 4-7, is 1 while a byte is being sent
unfoldable pub fsm_status : ℕ → ℕ
fsm_status flying = choose (ltb 0 flying) (2 ^ 4) 0

-- where the firmware looks at the receiver
unfoldable pub looks : Register → Bool
looks r =
    same_register r fifo || same_register r (shown Shown.int_raw) || same_register r (shown Shown.int_st)
    || same_register r (shown Shown.status)

module _ {H W : Type 0} where
  -- the oldest byte received; from an empty FIFO 0, with a notice
  unfoldable pub pop : List Unsupported → List H → Uart H W → Access (ReadOf H) H W
  pop ns [] u = gives (ns ++ (UartEmptyRead ∷ [])) u (word 0)
  pop ns (b ∷ bs) u = gives ns (with_rx bs u) (byte b)

  unfoldable pub shown_in : Uart H W → Shown → ℕ
  shown_in u Shown.int_raw = (line_of u).int_raw
  shown_in u Shown.int_st = int_status u.control
  shown_in u Shown.status = status_word u.map.idle_status (length u.in_flight) (length u.rx)
  shown_in u Shown.fsm_status = fsm_status (length u.in_flight)
  shown_in u Shown.mem_rx_status = u.map.mem_rx_status

  -- INT_CLR and an unknown register cannot be read
  unfoldable pub read_register : List Unsupported → Register → Uart H W → Access (ReadOf H) H W
  read_register ns fifo u = pop ns u.rx u
  read_register ns int_clr u = gives ns u no_value
  read_register ns unknown u = gives ns u no_value
  read_register ns (shown s) u = gives ns u (word (shown_in u s))
  read_register ns (stored x) u = gives ns u (word (value_of u.control.words x))

  -- a look at the receiver tells of a mistimed reception, once
  unfoldable pub read_looking : Bool → Register → Uart H W → Access (ReadOf H) H W
  read_looking true r u =
      read_register (source_notes UartReceiveClock (line_of u).rx_mistimed) r (with_line_of (with_mistimed Source.None (line_of u)) u)
  read_looking false r u = read_register [] r u

  unfoldable pub read_at : Register → Uart H W → Access (ReadOf H) H W
  read_at r u = read_looking (looks r) r u

-- ---- write

-- the seven modes of CONF0 that are refused by name, then a stop code of 0
unfoldable pub conf0_notes : ℕ → List Unsupported
conf0_notes v =
    note_if (bit 8 v) (UartFeature TxBreak)
    (note_if (bit 14 v) (UartFeature Loopback)
    (note_if (bit 15 v) (UartFeature TxFlowControl)
    (note_if (bit 16 v) (UartFeature Irda)
    (note_if (bit 19 v) (UartFeature InvertedRx)
    (note_if (bit 22 v) (UartFeature InvertedTx)
    (note_if (bit 27 v) (UartFeature Autobaud)
    (note_if (eqb (field 4 2 v) 0) (UartFeature NoStopBit) [])))))))

-- CONF1 bit 20 RX_FLOW_EN; RS485_CONF other than 0; MEM_CONF's RX_SIZE and TX_SIZE, bits 1-3 and 4-6, other than 1
unfoldable pub stored_notes : Word → ℕ → List Unsupported
stored_notes x v =
    choose (same_word x Word.conf0) (conf0_notes v)
    (note_if (same_word x Word.conf1 && bit 20 v) (UartFeature RxFlowControl)
    (note_if (same_word x Word.rs485_conf && not (eqb v 0)) (UartFeature Rs485)
    (note_if (same_word x Word.mem_conf && not (eqb (field 1 6 v) 9)) (UartFeature FifoSize) [])))

unfoldable pub starts_at : ℕ → Date → ℕ
starts_at now None = now
starts_at now (Some gone) = later gone now

module _ {H W : Type 0} where
  -- when a byte written now has gone: it starts after the last one in flight, and not before now
  unfoldable pub gone_at : ℕ → Uart H W → ℕ
  gone_at now u = after (starts_at (subcycles now) (last_gone u.in_flight)) (byte_time u.control.words u.control.period)

  unfoldable pub sent : ℕ → W → Uart H W → Access Write H W
  sent now b u =
      gives (source_notes UartClock (unmodelled_source u.control.words.clk_conf))
      (with_in_flight (u.in_flight ++ (record { gone_at = gone_at now u; byte = b } ∷ [])) u) (Ok true)

  unfoldable pub dropped : Uart H W → Access Write H W
  dropped u = gives (UartOverflow ∷ []) u (Ok true)

  -- with over 128 bytes in flight the byte is dropped
  unfoldable pub send_byte : ℕ → W → Uart H W → Access Write H W
  send_byte now b u = choose (ltb fifo_bytes (length u.in_flight)) (dropped u) (sent now b u)

  -- TXFIFO_RST keeps the byte in the shift register; RXFIFO_RST empties the receive FIFO
  unfoldable pub reset_fifos : ℕ → Uart H W → Uart H W
  reset_fifos v u = with_in_flight (choose (bit 18 v) (take 1 u.in_flight) u.in_flight) (with_rx (choose (bit 17 v) [] u.rx) u)

  unfoldable pub storing : Word → ℕ → Uart H W → Access Write H W
  storing x v u = gives (stored_notes x v) (with_control (with_words (replaced x v u.control.words) u.control) u) (Ok true)

  unfoldable pub clearing : ℕ → Uart H W → Access Write H W
  clearing v u = gives [] (with_line_of (with_int_raw (without v (line_of u).int_raw) (line_of u)) u) (Ok true)

  -- at a register other than FIFO. CONF0 resets the FIFOs first; a read-only or unknown register is not accepted
  unfoldable pub write_register : Register → ℕ → Uart H W → Access Write H W
  write_register fifo v u = gives [] u (Ok false)
  write_register int_clr v u = clearing v u
  write_register unknown v u = gives [] u (Ok false)
  write_register (shown s) v u = gives [] u (Ok false)
  write_register (stored x) v u = storing x v (choose (same_word x Word.conf0) (reset_fifos v u) u)

  -- every write raises levels, drives the interrupt and arms, accepted or not
  unfoldable pub concluded : {R : Type 0} → Access R H W → Access R H W
  concluded a = gives a.notes (arm (levels a.state)) a.reply
