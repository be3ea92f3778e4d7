-- Set-up: a new UART from sixteen offsets and sixteen reset words. Assumes nothing.
use Rattle.model.specs.declared.Source.{Source}
use Rattle.std.specs.Prelude.{ℕ, ◌^◌, false, List, [], get_or, None, Ok, Err}
use Rattle.std.proofs.Math.Option.{Option, none, some}
use Rattle.model.specs.Numbers.{choose, without}
use Rattle.model.specs.State.{Uart}
use Rattle.model.specs.Setters.{uart_from}
use Rattle.model.specs.Line.{TXFIFO-EMPTY}
use Rattle.model.specs.Map.{Register, shown, stored, status, mem_rx_status, place_among, registers, words_by}
use Rattle.model.specs.Tests.{repeated}
use Rattle.model.specs.declared.Words.{Words}
use Rattle.model.specs.declared.RegisterMap.{RegisterMap}
use Rattle.model.specs.declared.Line.{Line}
use Rattle.model.specs.declared.Control.{Control}
use Rattle.model.specs.declared.Refusal.TheVariants.{RepeatedOffset}
use Rattle.model.specs.Names.{SetUp}

-- the reset word of a register, among the sixteen in the order of set-up
abbrev pub reset_of : List ℕ → Register → ℕ
reset_of ws r = get_or ws (place_among r registers) 0

unfoldable pub words_among : List ℕ → Words
words_among ws = words_by (λ x. reset_of ws (stored x))

-- RXFIFO_CNT and TXFIFO_CNT
abbrev pub fifo_counts : ℕ
fifo_counts = 0x03FF03FF

-- STATUS without its counts
abbrev pub idle_status : List ℕ → ℕ
idle_status ws = without fifo_counts (reset_of ws (shown status))

unfoldable pub map_of : List ℕ → List ℕ → RegisterMap
map_of offsets ws =
    record { offsets = offsets; reset = words_among ws; idle_status = idle_status ws; mem_rx_status = reset_of ws (shown mem_rx_status) }

-- INT_RAW has TXFIFO_EMPTY set always
abbrev pub new_line : Line
new_line = record { int_raw = 2 ^ TXFIFO-EMPTY; rx_mistimed = Source.None; idle_since = None; line_free_at = 0 }

-- the APB clock's period at power-on, in cycles
abbrev pub power_on : ℕ
power_on = 8

-- the level is low until the first settling
unfoldable pub new_control : Words → Control
new_control w =
    record { words = w; line = new_line; period = power_on; last = 0; wake = None; watched = false; powered_down_at = None; level = false }

-- and there is no byte
unfoldable pub new : {H W : Type 0} → List ℕ → List ℕ → Uart H W
new offsets ws = uart_from (map_of offsets ws) (new_control (words_among ws)) [] [] [] [] none []

unfoldable pub set_up_reply : List ℕ → SetUp
set_up_reply offsets = choose (repeated offsets) (Err RepeatedOffset) (Ok tt)

-- the state of a new UART; a refused set-up returns none
unfoldable pub set_up : {H W : Type 0} → List ℕ → List ℕ → Option (Uart H W)
set_up offsets ws = choose (repeated offsets) none (some (new offsets ws))
