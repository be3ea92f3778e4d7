-- What a session stands for, and what a line that is answered leaves of it. Assumes nothing.
use Rattle.std.specs.Prelude.{◌≡◌, true, List, ℕ, ◌+◌, ◌≤◌, length}
use Rattle.std.proofs.Math.Option.{Option, none, some}
use Rattle.text.specs.Output.{Put}
use Rattle.text.specs.Pick.{pick}
use Rattle.model.specs.State
use Rattle.uart.specs.declared.Uart.{Uart}
use Rattle.uart.specs.Whole.{meaning, Good}
use Rattle.session.specs.declared.Session.{Session}
use Rattle.session.specs.Requests.{Next}

-- the UART that is set up, if one is
abbrev pub stands_for : Session → Option (State.Uart ℕ ℕ)
stands_for s = pick s.ready (some (meaning s.uart)) none

abbrev pub moved_to : ℕ → Session → Session
moved_to at s = record { uart = s.uart; ready = s.ready; at = at }

abbrev pub set_up : Uart → ℕ → Session
set_up u at = record { uart = u; ready = true; at = at }

-- nothing is set up, and nothing put out
pub record Begins (s : Session) : Type 0 where
  pub device : stands_for s ≡ none
  pub good : Good s.uart
  pub at : s.at ≡ 0

-- there is room for any answer: two digits for each of 8192 bytes, and 1024 besides
abbrev pub Wide : List ℕ → ℕ → Type 0
Wide out at = at + 17408 ≤ length out

-- the text is put, and the session stands for what is next
pub record Gives (next : Next) (before : List ℕ) (at : ℕ) (after : List ℕ) (r : Session) : Type 0 where
  pub put : Put next.text before at after r.at
  pub device : stands_for r ≡ next.device
  pub good : Good r.uart

-- the same of a text and of the UART that a call gave back
pub record InUse (text : List ℕ) (u : Uart) (before : List ℕ) (at : ℕ) (after : List ℕ) (r : Session) : Type 0 where
  pub put : Put text before at after r.at
  pub session : r ≡ set_up u r.at
