-- When what was put to the output is written. Whether a write fails is nobody's to say. Assumes nothing.
use Rattle.std.specs.Prelude.{◌≡◌, Bool, true, false, ℕ, ◌≤◌, ◌<◌}
use Rattle.std.proofs.Common.{subst}
use Rattle.streams.specs.declared.output.Output.{Output}

-- all is written, or the write fails; after a write that failed nothing is
pub data Flushed (o : Output) : Output → Type 0 where
  ended : o.failed ≡ true → Flushed o o
  written : o.failed ≡ false → Flushed o (record { at = 0; failed = false })
  broken : o.failed ≡ false → Flushed o (record { at = o.at; failed = true })

-- what was put out waits while a line stands there and there is room, and else it is written
pub data KeepsUp (line : Bool) (full : ℕ) (o : Output) : Output → Type 0 where
  waits : line ≡ true → o.at ≤ full → KeepsUp line full o o
  no_line : {r : Output} → line ≡ false → Flushed o r → KeepsUp line full o r
  filled : {r : Output} → full < o.at → Flushed o r → KeepsUp line full o r

-- ---- laws

pub kept_same : (line line' : Bool) (full : ℕ) (o r : Output) → line ≡ line' → KeepsUp line full o r → KeepsUp line' full o r
kept_same line line' full o r e k = subst (λ (b : Bool). KeepsUp b full o r) e k
