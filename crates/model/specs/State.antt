-- The state of a UART. Its control is numbers and marks; its bytes are of types of their own, so that no definition can
-- look into one: H for the host's bytes, W for those that the firmware writes. Assumes nothing.
use Rattle.std.specs.Prelude.{ℕ, List, [], ◌∷◌}
use Rattle.std.proofs.Math.Option.{Option, none, some}
use Rattle.model.specs.declared.RegisterMap.{RegisterMap}
use Rattle.model.specs.declared.Line.{Line}
use Rattle.model.specs.declared.Frame.{Frame}
use Rattle.model.specs.declared.Control.{Control}

-- a byte on its way out, and the date when its last bit has gone
pub record Sent (W : Type 0) : Type 0 where
  pub gone_at : ℕ
  pub byte : W

-- a run of host bytes: none of its bytes starts before its date
pub record Run : Type 0 where
  pub date : ℕ
  pub count : ℕ

-- a host byte on the line
pub record OnTheLine (H : Type 0) : Type 0 where
  pub byte : H
  pub frame : Frame

pub record Uart (H W : Type 0) : Type 0 where
  pub map : RegisterMap
  pub control : Control
  -- the first is in the shift register, the others are in the transmit FIFO
  pub in_flight : List (Sent W)
  -- the bytes that have left and that no call has taken
  pub tx : List W
  -- the host bytes that have not started, and the runs that date them
  pub host : List H
  pub host_runs : List Run
  pub receiving : Option (OnTheLine H)
  -- the receive FIFO
  pub rx : List H

-- the line's part of the control
abbrev pub line_of : {H W : Type 0} → Uart H W → Line
line_of u = u.control.line

-- the byte on the line, if one is
abbrev pub line_bytes : {H : Type 0} → Option (OnTheLine H) → List H
line_bytes none = []
line_bytes (some l) = l.byte ∷ []
