-- Line timing: how long a frame, a bit and the receive timeout last, in subcycles. Assumes nothing.
use Rattle.std.specs.Prelude.{ℕ, zero, suc, ◌+◌, ◌*◌, eqb, Some, None}
use Rattle.model.specs.Numbers.{choose, field, bit}
use Rattle.model.specs.declared.Source.{Source}
use Rattle.model.specs.declared.Words.{Words}
use Rattle.model.specs.declared.Settings.{Settings}

-- the crystal's period, in cycles
abbrev pub xtal_period : ℕ
xtal_period = 4

-- stop codes 0 and 1 count 2 half bits, 2 counts 3, 3 counts 4
unfoldable pub stop_half_bits : ℕ → ℕ
stop_half_bits zero = 2
stop_half_bits (suc zero) = 2
stop_half_bits (suc (suc zero)) = 3
stop_half_bits (suc (suc (suc n))) = 4

-- CONF0: bit 1 PARITY_EN, bits 2-3 BIT_NUM, bits 4-5 STOP_BIT_NUM
unfoldable pub frame_half_bits : ℕ → ℕ
frame_half_bits conf0 = 2 * (1 + (5 + field 2 2 conf0) + field 1 1 conf0) + stop_half_bits (field 4 2 conf0)

-- CLK_CONF bits 20-21, SCLK_SEL
abbrev pub source_selection : ℕ → ℕ
source_selection clk_conf = field 20 2 clk_conf

-- source 1 is APB; every other uses the crystal
unfoldable pub source_period : ℕ → ℕ → ℕ
source_period clk_conf period = choose (eqb (source_selection clk_conf) 1) period xtal_period

-- sources 0 and 2 have no frequency here and give a notice
unfoldable pub unmodelled : ℕ → Source
unmodelled zero = Source.Sel0
unmodelled (suc zero) = Source.None
unmodelled (suc (suc zero)) = Source.Sel2
unmodelled (suc (suc (suc n))) = Source.None

unfoldable pub unmodelled_source : ℕ → Source
unmodelled_source clk_conf = unmodelled (source_selection clk_conf)

-- CLKDIV in sixteenths: bits 0-11 its integer part, bits 20-23 its fraction
abbrev pub divider : ℕ → ℕ
divider clkdiv = 16 * field 0 12 clkdiv + field 20 4 clkdiv

-- CLK_CONF bits 12-19, SCLK_DIV_NUM, plus 1
abbrev pub source_divider : ℕ → ℕ
source_divider clk_conf = field 12 8 clk_conf + 1

module _ (w : Words) (period : ℕ) where
  -- half a bit has as many subcycles as the divider has sixteenths of a source clock cycle
  unfoldable pub half_bit_time : ℕ
  half_bit_time = divider w.clkdiv * source_divider w.clk_conf * source_period w.clk_conf period

  unfoldable pub bit_time : ℕ
  bit_time = 2 * half_bit_time

  unfoldable pub byte_time : ℕ
  byte_time = frame_half_bits w.conf0 * half_bit_time

  -- MEM_CONF bits 16-25, RX_TOUT_THRHD, in bit times
  unfoldable pub timeout_time : ℕ
  timeout_time = field 16 10 w.mem_conf * bit_time

  -- what the receiver reads of the registers and the clock
  unfoldable pub settings : Settings
  settings = record {
    byte_time = byte_time;
    timeout_time = timeout_time;
    source = unmodelled_source w.clk_conf;
    rx_sclk_en = bit 25 w.clk_conf;
    rx_tout_en = bit 21 w.conf1;
    rxfifo_rst = bit 17 w.conf0;
    dis_rx_dat_ovf = bit 18 w.conf1;
  }
