-- What a read leaves of the line that has begun. Assumes nothing.
use Rattle.std.specs.Prelude.{◌≡◌, true, false}
use Rattle.text.specs.declared.input.Input.{Input}

-- while a whole line stands there nothing changes; where more may come, the line that has begun is kept
pub record Reads (i r : Input) : Type 0 where
  pub waits : i.whole ≡ true → r ≡ i
  pub len : r.more ≡ true → r.len ≡ i.len
  pub long : r.more ≡ true → r.long ≡ i.long
  pub whole : r.whole ≡ i.whole

-- ---- laws

-- a line that is not whole: what has begun is kept, or no more comes
pub kept : (i r : Input) → i.whole ≡ false → r.whole ≡ i.whole → r.len ≡ i.len → r.long ≡ i.long → Reads i r
kept i r e w l g = record { waits = λ t. cc; len = λ _. l; long = λ _. g; whole = w }

pub over : (i r : Input) → i.whole ≡ false → r.whole ≡ i.whole → r.more ≡ false → Reads i r
over i r e w m = record { waits = λ t. cc; len = λ t. cc; long = λ t. cc; whole = w }
