-- What is filled after the output was kept up. Assumes nothing.
use Rattle.std.specs.Prelude.{◌≡◌, refl, Bool, true, false, ℕ, ◌≤◌}
use Rattle.std.proofs.Common.{arith}
use Rattle.streams.specs.Outputs.{Flushed, KeepsUp}
use Rattle.streams.specs.declared.output.Output.{Output}

differ : {A : Type 0} {b : Bool} → b ≡ true → b ≡ false → A
differ e f = absurd (let z : ◌≡◌ {A = ℕ} 0 1 = cc in omega arith)

flushed-room : (full : ℕ) {o r : Output} → Flushed o r → r.failed ≡ false → r.at ≤ full
flushed-room full (Flushed.ended e) h = differ e h
flushed-room full (Flushed.written e) h = omega arith
flushed-room full (Flushed.broken e) h = differ refl h

-- where no write failed, no more than that is filled
pub kept-room : {line : Bool} {full : ℕ} {o r : Output} → KeepsUp line full o r → r.failed ≡ false → r.at ≤ full
kept-room (KeepsUp.waits e h) f = h
kept-room {full = full} (KeepsUp.no_line e w) f = flushed-room full w f
kept-room {full = full} (KeepsUp.filled h w) f = flushed-room full w f
