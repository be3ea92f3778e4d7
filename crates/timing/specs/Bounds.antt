-- The largest times at document 01's limits: no product of line timing passes 64 bits.
-- Assumes nothing.
use Rattle.std.specs.Prelude.{ℕ, zero, suc, ◌*◌, ◌≤◌, Bool, true, false}
use Rattle.std.proofs.Common.{mul-le-mul, arith}
use Rattle.model.specs.Numbers.{choose, field}
use Rattle.model.specs.Timing.{stop_half_bits, frame_half_bits, xtal_period, source_period, divider, source_divider, half_bit_time}
use Rattle.model.specs.Timing.{bit_time}
use Rattle.model.specs.Timing.{byte_time, timeout_time}
use Rattle.model.specs.Tests.{period_limit}
use Rattle.model.specs.declared.Words.{Words}

abbrev pub half_bit_most : ℕ
half_bit_most = 65535 * 256 * 1000000

abbrev pub byte_most : ℕ
byte_most = 24 * half_bit_most

abbrev pub timeout_most : ℕ
timeout_most = 1023 * (2 * half_bit_most)

-- a product of two numbers is at most that of their bounds
pub product-most : (a b m n : ℕ) → a ≤ m → b ≤ n → a * b ≤ m * n
product-most a b m n h i = mul-le-mul h i

pub stop-most : (code : ℕ) → stop_half_bits code ≤ 4
unfolding stop_half_bits
stop-most zero = omega arith
stop-most (suc zero) = omega arith
stop-most (suc (suc zero)) = omega arith
stop-most (suc (suc (suc n))) = omega arith

pub frame-most : (conf0 : ℕ) → frame_half_bits conf0 ≤ 24
unfolding frame_half_bits
frame-most conf0 = omega (arith, stop-most (field 4 2 conf0))

picked-most : (t : Bool) (period : ℕ) → period ≤ period_limit → choose t period xtal_period ≤ period_limit
unfolding choose
picked-most true period h = h
picked-most false period h = omega arith

pub source-most : (clk_conf period : ℕ) → period ≤ period_limit → source_period clk_conf period ≤ period_limit
unfolding source_period
source-most clk_conf period h = picked-most _ period h

module _ (w : Words) (period : ℕ) (limit : period ≤ period_limit) where
  pub half-bit-most : half_bit_time w period ≤ half_bit_most
  unfolding half_bit_time
  half-bit-most =
      product-most _ _ (65535 * 256) period_limit
      (product-most (divider w.clkdiv) (source_divider w.clk_conf) 65535 256 (omega arith) (omega arith))
      (source-most w.clk_conf period limit)

  pub bit-most : bit_time w period ≤ 2 * half_bit_most
  unfolding bit_time
  bit-most = omega (arith, half-bit-most)

  pub byte-most : byte_time w period ≤ byte_most
  unfolding byte_time
  byte-most = product-most _ _ 24 half_bit_most (frame-most w.conf0) half-bit-most

  pub timeout-most : timeout_time w period ≤ timeout_most
  unfolding timeout_time
  timeout-most = product-most (field 16 10 w.mem_conf) _ 1023 (2 * half_bit_most) (omega arith) bit-most
