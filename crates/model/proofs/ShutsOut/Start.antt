-- What set-up makes of its sixteen reset words, and the period at power-on. Assumes nothing.
use Rattle.std.specs.Prelude.{◌≡◌, refl, ℕ, List, [], ◌∷◌}
use Rattle.std.proofs.Math.Bool.{decide}
use Rattle.model.specs.Numbers.{choose, without}
use Rattle.model.specs.State.{Uart}
use Rattle.model.specs.Map.{place_among, words_by}
use Rattle.model.specs.SetUp.{words_among, map_of, new_control, new}

-- the reset words are given in this order: FIFO, INT_RAW, INT_ST, INT_ENA, INT_CLR, CLKDIV, STATUS, FSM_STATUS, CONF0, CONF1, CLK_CONF,
-- IDLE_CONF, RS485_CONF, AT_CMD_CHAR, MEM_CONF, MEM_RX_STATUS. Nine are stored, STATUS is used without its counts, and
-- MEM_RX_STATUS is used
pub new-words : (offsets : List ℕ) (w0 w1 w2 w3 w4 w5 w6 w7 w8 w9 w10 w11 w12 w13 w14 w15 : ℕ)
    → let ws : List ℕ = w0 ∷ w1 ∷ w2 ∷ w3 ∷ w4 ∷ w5 ∷ w6 ∷ w7 ∷ w8 ∷ w9 ∷ w10 ∷ w11 ∷ w12 ∷ w13 ∷ w14 ∷ w15 ∷ [] in
    let u : Uart ℕ ℕ = new offsets ws in
    (u.control.words ≡ record {
      int_ena = w3;
      clkdiv = w5;
      conf0 = w8;
      conf1 = w9;
      clk_conf = w10;
      idle_conf = w11;
      rs485_conf = w12;
      at_cmd_char = w13;
      mem_conf = w14;
    }) × (u.map.reset ≡ u.control.words) × (u.map.idle_status ≡ without 0x03FF03FF w6) × (u.map.mem_rx_status ≡ w15)
unfolding new new_control map_of words_among words_by place_among choose decide
new-words offsets w0 w1 w2 w3 w4 w5 w6 w7 w8 w9 w10 w11 w12 w13 w14 w15 = (refl, refl, refl, refl)

-- the APB period at power-on is 8 cycles
pub new-period : (offsets ws : List ℕ) → (new {H = ℕ} {W = ℕ} offsets ws).control.period ≡ 8
unfolding new new_control
new-period offsets ws = refl
