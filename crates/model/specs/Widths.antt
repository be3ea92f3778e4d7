-- What the types say of a state beyond its limits (Limits): words of 32 bits, a power-down date of 64, and bytes. Every call keeps it
-- (Keeps/Widths), so that a saved state can be read back. Assumes nothing.
use Rattle.std.specs.Prelude.{ℕ, ◌^◌, ◌<◌, List, map}
use Rattle.dates.specs.Dates
use Rattle.model.specs.State.{Uart, line_of, line_bytes}
use Rattle.model.specs.Map.{Word, value_of}
use Rattle.model.specs.Call.{given, Request, Asked, Ask}
use Rattle.model.specs.Limits.{All, NoLater}

abbrev pub Word32 : ℕ → Type 0
Word32 n = n < 2 ^ 32

abbrev pub Bytes : List ℕ → Type 0
Bytes bs = All (λ b. b < 256) bs

pub record Widths (u : Uart ℕ ℕ) : Type 0 where
  pub offsets : All Word32 u.map.offsets
  pub reset : (x : Word) → Word32 (value_of u.map.reset x)
  pub idle_status : Word32 u.map.idle_status
  pub mem_rx_status : Word32 u.map.mem_rx_status
  pub words : (x : Word) → Word32 (value_of u.control.words x)
  pub int_raw : Word32 (line_of u).int_raw
  pub powered_down_at : NoLater Dates.last u.control.powered_down_at
  pub in_flight : Bytes (map (λ s. s.byte) u.in_flight)
  pub tx : Bytes u.tx
  pub host : Bytes u.host
  pub receiving : Bytes (line_bytes u.receiving)
  pub rx : Bytes u.rx

-- the same of what a call gives: words written, and host bytes
abbrev pub Given : Request → Type 0
Given c = All (λ x. Word32 x.value) (given c).1 × Bytes (given c).0

-- and of a row, its bytes
abbrev pub AskedGiven : Ask → Type 0
AskedGiven (Asked.call c) = Given c
AskedGiven (Asked.row now bs) = Bytes bs
