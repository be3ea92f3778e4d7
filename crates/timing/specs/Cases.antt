-- The cases of stop codes and of source selections, as the code tells them apart. Assumes nothing.
use Rattle.model.specs.declared.Source.{Source}
use Rattle.std.specs.Prelude.{◌≡◌, refl, ℕ, zero, suc, ◌<◌, ◌≤◌, None}
use Rattle.std.proofs.Common.{arith}
use Rattle.model.specs.Timing.{stop_half_bits, unmodelled}

pub stop-one : (code : ℕ) → code < 2 → stop_half_bits code ≡ 2
unfolding stop_half_bits
stop-one zero h = refl
stop-one (suc zero) h = refl
stop-one (suc (suc n)) h = absurd (omega arith)

pub stop-two : (code : ℕ) → 3 ≤ code → stop_half_bits code ≡ 4
unfolding stop_half_bits
stop-two zero h = absurd (omega arith)
stop-two (suc zero) h = absurd (omega arith)
stop-two (suc (suc zero)) h = absurd (omega arith)
stop-two (suc (suc (suc n))) h = refl

pub modelled : (sel : ℕ) → 3 ≤ sel → unmodelled sel ≡ Source.None
unfolding unmodelled
modelled zero h = absurd (omega arith)
modelled (suc zero) h = absurd (omega arith)
modelled (suc (suc zero)) h = absurd (omega arith)
modelled (suc (suc (suc n))) h = refl
