-- A call as a caller makes it, a row, and the whole answer. Assumes nothing.
use Rattle.std.specs.Prelude.{ℕ, Bool, List, [], ◌∷◌}
use Rattle.std.proofs.Math.Option.{Option, none, some}
use Rattle.model.specs.Replies.{ReadOf, Take}
use Rattle.model.specs.Names.{Write, Done, Row}
use Rattle.model.specs.declared.Report.{Report}

-- what the machine around the UART does
pub data Machine : Type 0 where
  wake reset power_down : Machine
  watch : Bool → Machine
  clock_change : ℕ → Machine

-- what is called at a cycle now. R says which register is read and X what is written where; H are the host's bytes, handed over for a
-- cycle of their own, and L those of a lent buffer
pub data Dated (R X H L : Type 0) : Type 0 where
  read : R → Dated R X H L
  write : X → Dated R X H L
  receive : ℕ → List H → Dated R X H L
  take_tx : List L → Dated R X H L
  machine : Machine → Dated R X H L

-- what is called without one
pub data Undated (L : Type 0) : Type 0 where
  take_written : List L → Undated L
  has_left host_pending : Undated L

pub data Call (R X H L : Type 0) : Type 0 where
  at : ℕ → Dated R X H L → Call R X H L
  undated : Undated L → Call R X H L

unfoldable pub date_of : {R X H L : Type 0} → Call R X H L → Option ℕ
date_of (Call.at now c) = some now
date_of (Call.undated c) = none

-- what a call gives: the host bytes that it hands over, and what it writes
unfoldable pub given : {R X H L : Type 0} → Call R X H L → List H × List X
given (Call.at now (Dated.read r)) = ([], [])
given (Call.at now (Dated.write x)) = ([], x ∷ [])
given (Call.at now (Dated.receive date bs)) = (bs, [])
given (Call.at now (Dated.take_tx lent)) = ([], [])
given (Call.at now (Dated.machine m)) = ([], [])
given (Call.undated c) = ([], [])

abbrev pub host_of : {R X H L : Type 0} → Call R X H L → List H
host_of c = (given c).0

-- a write names an offset and a 32-bit word
pub record Written : Type 0 where
  pub offset : ℕ
  pub value : ℕ

-- what a caller gives: numbers
abbrev pub Request : Type 0
Request = Call ℕ Written ℕ ℕ

-- what is asked of a UART: a call C, or a row of bytes W, written to FIFO at a cycle now
pub data Asked (C W : Type 0) : Type 0 where
  call : C → Asked C W
  row : ℕ → List W → Asked C W

abbrev pub Ask : Type 0
Ask = Asked Request ℕ

unfoldable pub asked_date : Ask → Option ℕ
asked_date (Asked.call c) = date_of c
asked_date (Asked.row now bs) = some now

-- the own result of a call
pub data Reply (H W L : Type 0) : Type 0 where
  reads : ReadOf H → Reply H W L
  writes : Write → Reply H W L
  does : Done → Reply H W L
  takes : Take W L → Reply H W L
  left : Bool → Reply H W L
  pends : ℕ → Reply H W L
  rows : Row → Reply H W L

pub record Answer (H W L : Type 0) : Type 0 where
  pub reply : Reply H W L
  pub report : Report
