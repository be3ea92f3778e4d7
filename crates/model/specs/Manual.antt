-- The UART chapter of the ESP32-C3 Technical Reference Manual, in numbers, fields and bits alone. The manual itself is not at
-- hand: each line rests on document 01 and uart.rs's comments. MeetsManual proves it of `step`. Assumes nothing.
use Rattle.std.specs.Prelude.{◌≡◌, ℕ, ◌+◌, ◌*◌, Bool, ◌&&◌, not, List, [], ◌∷◌, ◌++◌, leb, ltb, eqb, Some, None}
use Rattle.std.proofs.Math.Option.{Option, none, some}
use Rattle.dates.specs.Dates.{after, later}
use Rattle.model.specs.Numbers.{choose, field, bit}
use Rattle.model.specs.Names.{Date}

-- ---- UART_CONF0: the frame, a start bit, 5 to 8 data bits, a parity bit or none, 1, 1.5 or 2 stop bits

pub data StopBits : Type 0 where
  one one_and_ahalf two : StopBits

-- STOP_BIT_NUM (bits 4-5); 0 stands for no number of stop bits
unfoldable pub stop_code : StopBits → ℕ
stop_code one = 1
stop_code one_and_ahalf = 2
stop_code two = 3

-- BIT_NUM (bits 2-3)
unfoldable pub data_bits : ℕ → ℕ
data_bits conf0 = 5 + field 2 2 conf0

-- twice the number of stop bits
unfoldable pub stop_halves : StopBits → ℕ
stop_halves one = 2
stop_halves one_and_ahalf = 3
stop_halves two = 4

-- twice the length of a frame in bits; PARITY_EN (bit 1) is a bit more
unfoldable pub half_bits : ℕ → StopBits → ℕ
half_bits conf0 stop = 2 * (1 + data_bits conf0 + field 1 1 conf0) + stop_halves stop

-- ---- UART_CLKDIV and UART_CLK_CONF: the bit time

-- CLKDIV (bits 0-11) and CLKDIV_FRAG (bits 20-23), in sixteenths
unfoldable pub divider : ℕ → ℕ
divider clkdiv = 16 * field 0 12 clkdiv + field 20 4 clkdiv

pub record Ratio : Type 0 where
  pub over : ℕ
  pub under : ℕ

-- SCLK_DIV_A (bits 6-11): how many parts of SCLK_DIV_B (bits 0-5) the source divider has beyond its whole number
abbrev pub fraction : ℕ → ℕ
fraction clk_conf = field 6 6 clk_conf

-- SCLK_DIV_NUM (bits 12-19) plus 1, and the fraction
unfoldable pub source_divider : ℕ → Ratio
source_divider clk_conf =
    choose (eqb (fraction clk_conf) 0) (record { over = field 12 8 clk_conf + 1; under = 1 })
    (record { over = (field 12 8 clk_conf + 1) * field 0 6 clk_conf + fraction clk_conf; under = field 0 6 clk_conf })

-- SCLK_SEL (bits 20-21): 1 is APB_CLK, 3 the crystal
pub data Source : Type 0 where
  apb crystal : Source

unfoldable pub source_code : Source → ℕ
source_code apb = 1
source_code crystal = 3

-- a source's period in cycles: APB_CLK's is what the system clock makes it, and the crystal's 40 MHz are a quarter of the cycles'
unfoldable pub period_of : Source → ℕ → ℕ
period_of apb period = period
period_of crystal period = 4

-- a time in subcycles is so many half bits. A bit lasts the divider times the source divider times the source's period; the divider counts
-- sixteenths and a cycle has 32 subcycles, so that half a bit has that product
abbrev pub Lasts : ℕ → ℕ → ℕ → ℕ → ℕ → Type 0
Lasts halves clkdiv clk_conf period time =
    time * (source_divider clk_conf).under ≡ halves * (divider clkdiv * (source_divider clk_conf).over * period)

-- ---- the receive line

-- host bytes, each with its date, on a line that is free from a date on: when each lands. It starts at the later of its date and the
-- line's being free, and lands a frame's time after its start; dates are held at the last one
unfoldable pub landings : {B : Type 0} → ℕ → ℕ → List (ℕ × B) → List (ℕ × B)
landings time free [] = []
landings time free (b ∷ bs) =
    (after (later b.0 free) time, b.1) ∷ landings time (after (later b.0 free) time) bs

-- the receive timeout of a line that is idle since a date: so long after it
unfoldable pub timeout : {B : Type 0} → ℕ → Date → List (ℕ × Option B)
timeout span None = []
timeout span (Some since) = (after since span, none) ∷ []

-- the same where a byte starts at a date, if the timeout comes no later: a start ends the idle line
unfoldable pub timeout_before : {B : Type 0} → ℕ → ℕ → Date → List (ℕ × Option B)
timeout_before start span None = []
timeout_before start span (Some since) = choose (leb (after since span) start) ((after since span, none) ∷ []) []

-- all that a receiver with its clock on shows, each with its date: a byte that lands, or none for a timeout
unfoldable pub reception : {B : Type 0} → ℕ → ℕ → Date → ℕ → List (ℕ × B) → List (ℕ × Option B)
reception time span idle free [] = timeout span idle
reception time span idle free (b ∷ bs) =
    timeout_before (later b.0 free) span idle ++ (after (later b.0 free) time, some b.1)
    ∷ reception time span (Some (after (later b.0 free) time)) (after (later b.0 free) time) bs

-- those of a list that come by a date
unfoldable pub by : {B : Type 0} → ℕ → List (ℕ × B) → List (ℕ × B)
by date [] = []
by date (b ∷ bs) = choose (leb b.0 date) (b ∷ by date bs) []

-- ---- UART_STATUS: the bytes in each FIFO

abbrev pub RXFIFO-CNT : ℕ → ℕ
RXFIFO-CNT status = field 0 10 status

abbrev pub TXFIFO-CNT : ℕ → ℕ
TXFIFO-CNT status = field 16 10 status

-- ---- UART_INT_RAW, UART_INT_ENA, UART_INT_ST, UART_INT_CLR: bit by bit

-- a bit of INT_ST, from those of INT_RAW and INT_ENA
abbrev pub masked : Bool → Bool → Bool
masked raw ena = raw && ena

-- a bit of INT_RAW after INT_CLR is written
abbrev pub cleared : Bool → Bool → Bool
cleared raw clr = raw && not clr

-- ---- what raises the bits of UART_INT_RAW

-- RXFIFO_FULL (bit 0): more bytes in the receive FIFO than RXFIFO_FULL_THRHD, UART_CONF1 bits 0-8
unfoldable pub RXFIFO-FULL : ℕ → ℕ → Bool
RXFIFO-FULL conf1 count = ltb (field 0 9 conf1) count

-- TXFIFO_EMPTY (bit 1): fewer bytes in the transmit FIFO than TXFIFO_EMPTY_THRHD, UART_CONF1 bits 9-17
unfoldable pub TXFIFO-EMPTY : ℕ → ℕ → Bool
TXFIFO-EMPTY conf1 count = ltb count (field 9 9 conf1)

-- RXFIFO_OVF (bit 4): bytes came to a full receive FIFO and were lost, with DIS_RX_DAT_OVF, UART_CONF1 bit 18, clear
unfoldable pub RXFIFO-OVF : ℕ → ℕ → Bool
RXFIFO-OVF conf1 losses = not (bit 18 conf1) && ltb 0 losses

-- RX_TOUT_THRHD, UART_MEM_CONF bits 16-25: for how many bit times the line is idle before the receive timeout
unfoldable pub timeout_bits : ℕ → ℕ
timeout_bits mem_conf = field 16 10 mem_conf

-- RXFIFO_TOUT (bit 8): the receive timeout comes with RX_TOUT_EN, UART_CONF1 bit 21, set, the receiver's clock, UART_CLK_CONF
-- bit 25 RX_SCLK_EN, on, and bytes in the receive FIFO
unfoldable pub RXFIFO-TOUT : ℕ → ℕ → Bool → ℕ → Bool
RXFIFO-TOUT conf1 clk_conf comes count = comes && (bit 21 conf1 && bit 25 clk_conf) && ltb 0 count

-- TX_DONE (bit 14): bytes were on their way out, and all have left
unfoldable pub TX-DONE : ℕ → ℕ → Bool
TX-DONE before now = ltb 0 before && eqb now 0
