-- A shift and a mask give a field: one law for every field, and one for a single bit. Assumes nothing.
use Rattle.std.specs.Prelude.{◌≡◌, ℕ, ◌-◌, ◌*◌, ◌/◌, ◌%◌, ◌^◌, ◌<◌, ◌≤◌, eqb}
use Rattle.std.proofs.Common.{ap, ◌∙◌, one-mul, arith, shl_exact, pow_pos}
use Rattle.std.specs.Int.Bits.{bit_and}
use Rattle.std.proofs.lemmas.Nat.{and_mask}
use Rattle.model.specs.Numbers.{field, bit}

-- `1 << width` on 32 bits
pub one_shifted : (width : ℕ) → width < 32 → (1 * 2 ^ width) % 2 ^ 32 ≡ 2 ^ width
one_shifted width h = shl_exact 1 width 32 (omega arith) (omega arith) ∙ one-mul (2 ^ width)

pub one-shifted-pos : (width : ℕ) → width < 32 → 1 ≤ (1 * 2 ^ width) % 2 ^ 32
one-shifted-pos width h = rw (one_shifted width h) (pow_pos width)

pub shift-mask : (low width word : ℕ) → width < 32 → bit_and (word / 2 ^ low) ((1 * 2 ^ width) % 2 ^ 32 - 1) ≡ field low width word
shift-mask low width word h = rw (one_shifted width h) (and_mask (word / 2 ^ low) width)

pub shift-bit : (n word : ℕ) → eqb (bit_and (word / 2 ^ n) 1) 1 ≡ bit n word
shift-bit n word = ap (λ x. eqb x 1) (and_mask (word / 2 ^ n) 1)
