-- One part of a state changed, the others kept. Assumes nothing.
use Rattle.std.specs.Prelude.{ℕ, Bool, List}
use Rattle.std.proofs.Math.Option.{Option}
use Rattle.model.specs.State.{Sent, Run, OnTheLine, Uart}
use Rattle.model.specs.Names.{Date}
use Rattle.model.specs.declared.Source.{Source}
use Rattle.model.specs.declared.Words.{Words}
use Rattle.model.specs.declared.RegisterMap.{RegisterMap}
use Rattle.model.specs.declared.Line.{Line}
use Rattle.model.specs.declared.Control.{Control}

abbrev pub with_int_raw : ℕ → Line → Line
with_int_raw v l =
    record { int_raw = v; rx_mistimed = l.rx_mistimed; idle_since = l.idle_since; line_free_at = l.line_free_at }

abbrev pub with_mistimed : Source → Line → Line
with_mistimed v l =
    record { int_raw = l.int_raw; rx_mistimed = v; idle_since = l.idle_since; line_free_at = l.line_free_at }

abbrev pub with_idle_since : Date → Line → Line
with_idle_since v l =
    record { int_raw = l.int_raw; rx_mistimed = l.rx_mistimed; idle_since = v; line_free_at = l.line_free_at }

abbrev pub with_line_free_at : ℕ → Line → Line
with_line_free_at v l =
    record { int_raw = l.int_raw; rx_mistimed = l.rx_mistimed; idle_since = l.idle_since; line_free_at = v }

-- a control by its parts in their order, so that a line below shows which one changes
abbrev pub control_from : Words → Line → ℕ → ℕ → Date → Bool → Date → Bool → Control
control_from w l period last wake watched down level =
    record { words = w; line = l; period = period; last = last; wake = wake; watched = watched; powered_down_at = down; level = level }

abbrev pub with_words : Words → Control → Control
with_words v c = control_from v c.line c.period c.last c.wake c.watched c.powered_down_at c.level

abbrev pub with_line : Line → Control → Control
with_line v c = control_from c.words v c.period c.last c.wake c.watched c.powered_down_at c.level

abbrev pub with_period : ℕ → Control → Control
with_period v c = control_from c.words c.line v c.last c.wake c.watched c.powered_down_at c.level

abbrev pub with_last : ℕ → Control → Control
with_last v c = control_from c.words c.line c.period v c.wake c.watched c.powered_down_at c.level

abbrev pub with_wake : Date → Control → Control
with_wake v c = control_from c.words c.line c.period c.last v c.watched c.powered_down_at c.level

abbrev pub with_watched : Bool → Control → Control
with_watched v c = control_from c.words c.line c.period c.last c.wake v c.powered_down_at c.level

abbrev pub with_powered_down_at : Date → Control → Control
with_powered_down_at v c = control_from c.words c.line c.period c.last c.wake c.watched v c.level

abbrev pub with_level : Bool → Control → Control
with_level v c = control_from c.words c.line c.period c.last c.wake c.watched c.powered_down_at v

module _ {H W : Type 0} where
  -- a UART by its parts in their order
  abbrev pub uart_from : RegisterMap → Control → List (Sent W) → List W → List H → List Run → Option (OnTheLine H) → List H → Uart H W
  uart_from map control in_flight tx host runs receiving rx =
      record { map = map; control = control; in_flight = in_flight; tx = tx; host = host; host_runs = runs; receiving = receiving; rx = rx }

  abbrev pub with_control : Control → Uart H W → Uart H W
  with_control v u = uart_from u.map v u.in_flight u.tx u.host u.host_runs u.receiving u.rx

  abbrev pub with_in_flight : List (Sent W) → Uart H W → Uart H W
  with_in_flight v u = uart_from u.map u.control v u.tx u.host u.host_runs u.receiving u.rx

  abbrev pub with_tx : List W → Uart H W → Uart H W
  with_tx v u = uart_from u.map u.control u.in_flight v u.host u.host_runs u.receiving u.rx

  abbrev pub with_host : List H → List Run → Uart H W → Uart H W
  with_host v r u = uart_from u.map u.control u.in_flight u.tx v r u.receiving u.rx

  abbrev pub with_receiving : Option (OnTheLine H) → Uart H W → Uart H W
  with_receiving v u = uart_from u.map u.control u.in_flight u.tx u.host u.host_runs v u.rx

  abbrev pub with_rx : List H → Uart H W → Uart H W
  with_rx v u = uart_from u.map u.control u.in_flight u.tx u.host u.host_runs u.receiving v

  abbrev pub with_line_of : Line → Uart H W → Uart H W
  with_line_of v u = with_control (with_line v u.control) u
