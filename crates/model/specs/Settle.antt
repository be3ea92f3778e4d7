-- Settling: departures, then the line pass by pass, then levels and the interrupt. Assumes nothing.
use Rattle.std.specs.Prelude.{ℕ, zero, suc, ◌+◌, ◌-◌, ◌*◌, Bool, true, false, ◌&&◌, not, List, [], ◌∷◌, ◌++◌, map, leb, ltb, eqb, length}
use Rattle.std.specs.Prelude.{Some}
use Rattle.std.specs.Prelude.{take, drop}
use Rattle.std.proofs.Math.Option.{Option, none, some}
use Rattle.std.specs.Int.Bits.{bit_and}
use Rattle.dates.specs.Dates.{subcycles, later, earlier}
use Rattle.model.specs.Numbers.{choose, field, due_by, instant_of, earliest}
use Rattle.model.specs.State.{Sent, Run, OnTheLine, Uart}
use Rattle.model.specs.Setters.{with_line, with_level, with_control, with_in_flight, with_tx, with_host}
use Rattle.model.specs.State.{line_of}
use Rattle.model.specs.Setters.{with_receiving, with_rx, with_line_of}
use Rattle.model.specs.Timing.{settings}
use Rattle.model.specs.Events.{Event, departure, timeout, landing, nothing, goes_on}
use Rattle.model.specs.Line.{RXFIFO-FULL, TXFIFO-EMPTY, TX-DONE, raise_if, timeout_at, time_out, frame, start, fate, land}
use Rattle.model.specs.declared.Line.{Line}
use Rattle.model.specs.declared.Control.{Control}
use Rattle.model.specs.declared.Settings.{Settings}
use Rattle.model.specs.declared.Fate.{Fate}
use Rattle.model.specs.declared.Fate.TheVariants.{Stored, Overflowed, Cleared, ClockOff, Unheard}

-- ---- departures

-- how many of the first bytes in flight have gone by a date
unfoldable pub gone : {W : Type 0} → ℕ → List (Sent W) → ℕ
gone date [] = zero
gone date (s ∷ ss) = elim (leb s.gone_at date) [ true ↦ suc (gone date ss) | false ↦ zero ]

-- TX_DONE: bytes were in flight, and none is now
unfoldable pub tx_done : ℕ → ℕ → Line → Line
tx_done before now l = raise_if (ltb 0 before && eqb now 0) TX-DONE l

unfoldable pub leave : {H W : Type 0} → ℕ → Uart H W → Uart H W
leave n u = with_in_flight (drop n u.in_flight) (with_tx (u.tx ++ map (λ s. s.byte) (take n u.in_flight)) u)

-- the bytes that have gone leave, and the last one raises TX_DONE
unfoldable pub depart : {H W : Type 0} → ℕ → Uart H W → Uart H W
depart date u =
    with_line_of (tx_done (length u.in_flight) (length u.in_flight - gone date u.in_flight) (line_of u))
    (leave (gone date u.in_flight) u)

unfoldable pub departures : {H W : Type 0} → ℕ → Uart H W → List (Event H W)
departures date u = map (λ s. departure s.gone_at s.byte) (take (gone date u.in_flight) u.in_flight)

-- ---- one pass

pub record Pass (H W : Type 0) : Type 0 where
  pub event : Event H W
  pub state : Uart H W

-- the first run loses a byte, and goes with its last
unfoldable pub pop_run : List Run → List Run
pop_run [] = []
pop_run (r ∷ rs) = choose (leb r.count 1) rs (record { date = r.date; count = r.count - 1 } ∷ rs)

-- a stored byte enters the receive FIFO
unfoldable pub received : {H : Type 0} → Fate → H → List H → List H
received Stored b held = held ++ (b ∷ [])
received Overflowed b held = held
received Cleared b held = held
received ClockOff b held = held
received Unheard b held = held

unfoldable pub nothing_due : {H W : Type 0} → ℕ → Uart H W → Pass H W
nothing_due date u = record { event = nothing date; state = u }

module _ {H W : Type 0} (s : Settings) where
  unfoldable pub timed_out : Uart H W → Pass H W
  timed_out u = record {
    event = timeout (instant_of (timeout_at s (line_of u)));
    state = with_line_of (time_out s (length u.rx) (line_of u)) u;
  }

  -- the byte on the line lands with its fate
  unfoldable pub landed : Fate → OnTheLine H → Uart H W → Pass H W
  landed f l u = record {
    event = landing (line_of u).line_free_at l.byte f;
    state = with_rx (received f l.byte u.rx) (with_receiving none (with_line_of (land s f l.frame (line_of u)) u));
  }

  -- with a byte on the line: a timeout that is due is taken before the landing
  unfoldable pub in_frame : ℕ → OnTheLine H → Uart H W → Pass H W
  in_frame date l u =
      choose (due_by date (timeout_at s (line_of u))) (timed_out u)
      (choose (ltb date (line_of u).line_free_at) (nothing_due date u) (landed (fate s (length u.rx) l.frame) l u))

  -- the next host byte starts
  unfoldable pub begun : ℕ → H → List H → Uart H W → Uart H W
  begun at b bs u =
      with_receiving (some (record { byte = b; frame = frame s }))
      (with_host bs (pop_run u.host_runs) (with_line_of (start s at (line_of u)) u))

  -- with a host byte waiting for its start: a timeout dated at or before the start comes first
  unfoldable pub before_start : ℕ → ℕ → H → List H → Uart H W → Pass H W
  before_start date at b bs u =
      choose (due_by (earlier date at) (timeout_at s (line_of u))) (timed_out u)
      (choose (ltb date at) (nothing_due date u) (in_frame date (record { byte = b; frame = frame s }) (begun at b bs u)))

  -- with no host byte at all
  unfoldable pub idle : ℕ → Uart H W → Pass H W
  idle date u = choose (due_by date (timeout_at s (line_of u))) (timed_out u) (nothing_due date u)

  unfoldable pub line_free : ℕ → List Run → List H → Uart H W → Pass H W
  line_free date [] bs u = idle date u
  line_free date (r ∷ rs) [] u = idle date u
  line_free date (r ∷ rs) (b ∷ bs) u = before_start date (later r.date (line_of u).line_free_at) b bs u

  unfoldable pub pass_on : ℕ → Option (OnTheLine H) → Uart H W → Pass H W
  pass_on date none u = line_free date u.host_runs u.host u
  pass_on date (some l) u = in_frame date l u

  -- the first thing due on the line by a date: uart.rs's take_next_on_the_line
  unfoldable pub pass : ℕ → Uart H W → Pass H W
  pass date u = pass_on date u.receiving u

-- ---- pass by pass

pub record Settled (H W : Type 0) : Type 0 where
  pub state : Uart H W
  pub events : List (Event H W)

unfoldable pub on_the_line : {H : Type 0} → Option (OnTheLine H) → ℕ
on_the_line none = 0
on_the_line (some l) = 1

module _ {H W : Type 0} where
  -- what was found before a settling goes on
  abbrev pub found : List (Event H W) → Settled H W → Settled H W
  found es t = record { state = t.state; events = es ++ t.events }

  abbrev pub ended : Uart H W → Settled H W
  ended u = record { state = u; events = [] }

  -- at most `k` passes more, the one before having said whether to go on
  unfoldable pub passes_from : Settings → ℕ → ℕ → Bool → Uart H W → Settled H W
  passes_from s date zero false u = ended u
  passes_from s date zero true u = ended u
  passes_from s date (suc k) false u = ended u
  passes_from s date (suc k) true u =
      found ((pass s date u).event ∷ []) (passes_from s date k (goes_on (pass s date u).event) (pass s date u).state)

  -- document 01's pending: the waiting host bytes and the one on the line
  unfoldable pub pending : Uart H W → ℕ
  pending u = length u.host + on_the_line u.receiving

  -- as many passes as there is something due, and one that finds nothing; 2 × pending + 2 are enough
  unfoldable pub passes : Settings → ℕ → Uart H W → Settled H W
  passes s date u = passes_from s date (2 * pending u + 2) true u

-- ---- levels and the interrupt

-- RXFIFO_FULL: strictly more bytes than CONF1 bits 0-8
unfoldable pub above_full : ℕ → ℕ → Bool
above_full conf1 held = ltb (field 0 9 conf1) held

-- the transmit FIFO holds all in flight but the first, which is in the shift register
unfoldable pub in_fifo : ℕ → ℕ
in_fifo flying = flying - 1

unfoldable pub empty_threshold : ℕ → ℕ
empty_threshold conf1 = field 9 9 conf1

-- TXFIFO_EMPTY: strictly fewer bytes than CONF1 bits 9-17
unfoldable pub below_empty : ℕ → ℕ → Bool
below_empty conf1 flying = ltb (in_fifo flying) (empty_threshold conf1)

unfoldable pub assert_levels : ℕ → ℕ → Control → Control
assert_levels held flying c =
    with_line
    (raise_if (below_empty c.words.conf1 flying) TXFIFO-EMPTY (raise_if (above_full c.words.conf1 held) RXFIFO-FULL c.line))
    c

unfoldable pub int_status : Control → ℕ
int_status c = bit_and c.line.int_raw c.words.int_ena

unfoldable pub drive : Control → Control
drive c = with_level (not (eqb (int_status c) 0)) c

-- the settling's date: now, and after power-down no later than that date
unfoldable pub settling_date : ℕ → Control → ℕ
settling_date now c = instant_of (earliest (Some (subcycles now)) c.powered_down_at)

module _ {H W : Type 0} where
  unfoldable pub levels : Uart H W → Uart H W
  levels u = with_control (drive (assert_levels (length u.rx) (length u.in_flight) u.control)) u

  unfoldable pub leveled : Settled H W → Settled H W
  leveled t = record { state = levels t.state; events = t.events }

  unfoldable pub settings_of : Uart H W → Settings
  settings_of u = settings u.control.words u.control.period

  unfoldable pub settle_to : ℕ → Uart H W → Settled H W
  settle_to date u = found (departures date u) (leveled (passes (settings_of u) date (depart date u)))

  unfoldable pub settle : ℕ → Uart H W → Settled H W
  settle now u = settle_to (settling_date now u.control) u
