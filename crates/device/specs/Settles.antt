-- A settling of a held UART is the definition's: its departures, its passes and its levels, put together. Assumes nothing.
use Rattle.std.specs.Prelude.{◌≡◌, Bool, take, Some}
use Rattle.std.proofs.Math.Path.{ap, ap₂, sym}
use Rattle.std.proofs.Common.{subst, ◌∙◌, arith}
use mathlib.Core.List.{List, ◌++◌, map}
use Prim.Native.Nat.{ℕ, ◌+◌, ◌-◌, ◌≤◌}
use Rattle.std.proofs.Math.ListN.{length, drop}
use Rattle.dates.specs.Dates.{subcycles}
use Rattle.model.specs.Numbers.{earliest, instant_of}
use Rattle.model.specs.State
use Rattle.model.specs.State.{Sent}
use Rattle.model.specs.Setters.{with_line, with_level, with_control, with_in_flight, with_tx}
use Rattle.model.specs.Timing
use Rattle.model.specs.Settle
use Rattle.model.specs.Events.{passes_in, overflows_in}
use Rattle.model.specs.Settle.{gone, tx_done, depart, departures, found, drive, assert_levels}
use Rattle.model.specs.Limits.{Within}
use Rattle.model.proofs.Laws.Events.{departures-pass, departures-lose}
use Rattle.model.proofs.Keeps.Settling.{settle-within}
use Rattle.model.specs.declared.Line.{Line}
use Rattle.model.specs.declared.Control.{Control}
use Rattle.model.specs.declared.Settings.{Settings}
use Rattle.queue.specs.Cursors.{slot_of}
use Rattle.queue.specs.Laws.{elems-length}
use Rattle.queue.specs.declared.Cursor.{Cursor}
use Rattle.line.specs.Levels
use Rattle.line.specs.Levels.{levels-line, drive-line}
use Rattle.device.specs.Holds.{Arrays, sent_at, flight_of, tx_of, abs, Valid}
use Rattle.device.specs.Leaves.{Leaves}
use Rattle.device.specs.Receives.{Fit, with}
use Rattle.device.specs.Ends.{Gives, Ends}
use Rattle.device.specs.declared.Core.{Core}
use Rattle.device.specs.declared.pass.Reception.{Reception}

-- a core and its slots are within the limits, and state, passes and overflows are those of a settling of the definition
pub record Settles (t : Settle.Settled ℕ ℕ) (c' : Core) (a' : Arrays) (n o : ℕ) : Type 0 where
  pub ok : Valid c' a'
  pub gives : Gives t (abs c' a') n o

-- ---- the core taken apart and put together

abbrev pub reception_of : Core → Line → Reception
reception_of c l = record { line = l; receiving = c.receiving; byte = c.byte; host = c.host; runs = c.runs; rx = c.rx }

abbrev pub together : Core → Cursor → Cursor → Reception → Line → Bool → Core
together c flight tx at l level = record {
  map = c.map;
  control = with_level level (with_line l c.control);
  receiving = at.receiving;
  byte = at.byte;
  flight = flight;
  tx = tx;
  host = at.host;
  runs = at.runs;
  rx = at.rx;
}

-- the arrays that a settling writes, in their places
abbrev pub written : Arrays → List ℕ → List ℕ → List ℕ → Arrays
written a tx counts rx =
    record { gone_at = a.gone_at; flight = a.flight; tx = tx; host = a.host; run_at = a.run_at; run_len = counts; rx = rx }

-- ---- before the passes

-- there is room for those that leave
pub room : (c : Core) (a : Arrays) (n : ℕ) → Valid c a → n ≤ c.flight.count → c.tx.count + n ≤ 1152
room c a n ok few =
    omega (
      arith,
      ok.within.sent,
      elems-length (slot_of a.tx 0) 1152 c.tx,
      elems-length (sent_at a.gone_at a.flight) 129 c.flight,
    )

pub fit : (c : Core) (a : Arrays) (l : Line) → Valid c a → Fit (reception_of c l) a.host a.run_at a.run_len a.rx
fit c a l ok = search

-- ---- two states that differ in a part

same_sent : (u : State.Uart ℕ ℕ) {l l' : Line} {f f' : List (Sent ℕ)} {t t' : List ℕ} → l ≡ l' → f ≡ f' → t ≡ t'
    → with_control (with_line l u.control) (with_in_flight f (with_tx t u))
    ≡ with_control (with_line l' u.control) (with_in_flight f' (with_tx t' u))
same_sent u a b c = rw (a, b, c)

-- the levels and the interrupt, from the numbers of the queues
pub control-after : (c : Control) {held held' flying flying' : ℕ} {l : Line} {level : Bool} → held ≡ held' → flying ≡ flying'
    → l ≡ Levels.levels c.words.conf1 held' flying' c.line → level ≡ Levels.level c.words.int_ena l
    → drive (assert_levels held flying c) ≡ with_level level (with_line l c)
control-after c {held} {held'} {flying} {flying'} {l} a b el ed =
    let line : Levels.levels c.words.conf1 held flying c.line ≡ l =
    ap₂ (λ (x y : ℕ). Levels.levels c.words.conf1 x y c.line) a b ∙ sym el in
    ap drive (levels-line held flying c) ∙ drive-line _ ∙ rw (line, ed)

-- ---- the whole

module _ (cycle : ℕ) (c : Core) (a : Arrays) (ok : Valid c a) {date n passes overflows : ℕ} {s : Settings} {flight' tx' : Cursor}
    {left' counts' rx' : List ℕ}
    {l l' : Line} {at' : Reception} {level : Bool}
    (dated : date ≡ instant_of (earliest (Some (subcycles cycle)) c.control.powered_down_at))
    (counted : (bytes : List ℕ) → n ≡ gone date (flight_of a.gone_at bytes c.flight))
    (leaves : Leaves n a.flight c.flight c.tx a.tx flight' tx' left')
    (reads : s ≡ Timing.settings c.control.words c.control.period)
    (told : l ≡ tx_done c.flight.count flight'.count c.control.line)
    (runs : Ends s date (reception_of c l) a.host a.run_at a.run_len a.rx at' counts' rx' passes overflows)
    (leveled : l' ≡ Levels.levels c.control.words.conf1 at'.rx.count flight'.count at'.line)
    (driven : level ≡ Levels.level c.control.words.int_ena l') where
  -- the state once its bytes have left
  sent : State.Uart ℕ ℕ
  sent = record {
    map = c.map;
    control = c.control;
    in_flight = flight_of a.gone_at a.flight flight';
    tx = tx_of left' tx';
    host = (abs c a).host;
    host_runs = (abs c a).host_runs;
    receiving = (abs c a).receiving;
    rx = (abs c a).rx;
  }

  departs : depart date (abs c a) ≡ with (reception_of c l) a.host a.run_at a.run_len a.rx sent
  unfolding sent depart Settle.leave
  departs =
      let all : length (abs c a).in_flight ≡ c.flight.count = elems-length (sent_at a.gone_at a.flight) 129 c.flight in
      let rest : length (abs c a).in_flight - gone date (abs c a).in_flight ≡ flight'.count =
      omega (arith, all, counted a.flight, leaves.fewer) in
      same_sent (abs c a) (ap₂ (λ (x y : ℕ). tx_done x y c.control.line) all rest ∙ sym told)
      (ap (λ (k : ℕ). drop k (abs c a).in_flight) (sym (counted a.flight)) ∙ sym (leaves.rest a.gone_at))
      (ap (λ (k : ℕ). (abs c a).tx ++ map (λ b. b.byte) (take k (abs c a).in_flight)) (sym (counted a.flight))
      ∙ sym (leaves.out a.gone_at))

  -- the state once the passes are made
  passed : State.Uart ℕ ℕ
  passed = with at' a.host a.run_at counts' rx' sent

  -- the settling of the definition: what it found before the passes, and what they found
  whole : Settle.settle cycle (abs c a)
      ≡ found (departures date (abs c a))
      (Settle.leveled (Settle.passes s date (with (reception_of c l) a.host a.run_at a.run_len a.rx sent)))
  unfolding Settle.settle Settle.settle_to Settle.settling_date Settle.settings_of
  whole =
      ap (λ (d : ℕ). found (departures d (abs c a))
      (Settle.leveled (Settle.passes (Timing.settings c.control.words c.control.period) d (depart d (abs c a))))) (sym dated)
      ∙ ap₂ (λ (x : Settings) (u : State.Uart ℕ ℕ). found (departures date (abs c a)) (Settle.leveled (Settle.passes x date u)))
      (sym reads) departs

  levels-after : Settle.levels passed ≡ abs (together c flight' tx' at' l' level) (written a left' counts' rx')
  unfolding passed sent Settle.levels
  levels-after =
      ap (λ (x : Control). with_control x passed)
      (control-after (with_line at'.line c.control) (elems-length (slot_of rx' 0) 128 at'.rx)
      (elems-length (sent_at a.gone_at a.flight) 129 flight') leveled driven)

  given : Gives (Settle.settle cycle (abs c a)) (abs (together c flight' tx' at' l' level) (written a left' counts' rx')) passes overflows
  unfolding passed Settle.leveled
  given =
      let k = runs.all sent in
      let es = (Settle.passes s date (with (reception_of c l) a.host a.run_at a.run_len a.rx sent)).events in
      record {
        state = sym (ap (λ (t : Settle.Settled ℕ ℕ). t.state) whole ∙ ap Settle.levels (sym k.state) ∙ levels-after);
        passes = k.passes ∙ sym (ap (λ (t : Settle.Settled ℕ ℕ). passes_in t.events) whole ∙ departures-pass date (abs c a) es);
        overflows = k.overflows ∙ sym (ap (λ (t : Settle.Settled ℕ ℕ). overflows_in t.events) whole ∙ departures-lose date (abs c a) es);
      }

  pub settles : Settles (Settle.settle cycle (abs c a)) (together c flight' tx' at' l' level) (written a left' counts' rx') passes overflows
  settles = record {
    ok = record {
      shape = search;
      within = subst Within (sym given.state) (settle-within cycle (abs c a) ok.within);
    };
    gives = given;
  }
