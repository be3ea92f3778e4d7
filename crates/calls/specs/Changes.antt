-- The core with one thing of its control changed: what it stands for, and that it is within the limits. Assumes nothing.
use Rattle.std.specs.Prelude.{◌≡◌, refl, Bool, ℕ, ◌<◌, ◌≤◌, length}
use Rattle.std.proofs.Common.{sym, ap, arith}
use Rattle.model.specs.State
use Rattle.model.specs.Setters.{with_words, with_line, with_period, with_last, with_wake, with_watched, with_powered_down_at, with_level}
use Rattle.model.specs.Setters.{with_control}
use Rattle.model.specs.Settle
use Rattle.model.specs.Arm
use Rattle.model.specs.Calls.{period_of, cleared_line, dated, clocked, cleared}
use Rattle.model.specs.Tests.{date_end, period_limit}
use Rattle.model.proofs.Keeps.Parts.{put_clock, through}
use Rattle.model.proofs.Keeps.Dated.{moved-parts}
use Rattle.model.proofs.Keeps.EachCall.{clocked-parts}
use Rattle.model.proofs.Keeps.Wake.{called-within}
use Rattle.model.specs.Names.{Date}
use Rattle.model.specs.declared.Line.{Line}
use Rattle.model.specs.declared.Control.{Control}
use Rattle.queue.specs.Cursors.{Held, slot_of, empty}
use Rattle.queue.specs.Laws.{elems-length, elems-none, empty-held}
use Rattle.line.specs.Levels
use Rattle.device.specs.Holds.{Arrays, sent_at, abs, Shape, Valid}
use Rattle.device.specs.Settles.{control-after}
use Rattle.device.specs.Arms.{Ready}
use Rattle.device.specs.declared.Core.{Core}

abbrev pub with_control_of : Control → Core → Core
with_control_of v c = record {
  map = c.map;
  control = v;
  receiving = c.receiving;
  byte = c.byte;
  flight = c.flight;
  tx = c.tx;
  host = c.host;
  runs = c.runs;
  rx = c.rx;
}

pub shape_of : (c : Core) (a : Arrays) (v : Control) → Shape c a → Shape (with_control_of v c) a
shape_of c a v k = search

abbrev pub dated_core : ℕ → Core → Core
dated_core cycle c = with_control_of (with_last cycle c.control) c

abbrev pub watched_core : ℕ → Bool → Core → Core
watched_core cycle on c = with_control_of (with_watched on (with_last cycle c.control)) c

abbrev pub clocked_core : ℕ → Core → Core
clocked_core period c = with_control_of (with_period (period_of period) c.control) c

-- levels and the interrupt, from the numbers of the queues
abbrev pub leveled_line : Core → Line
leveled_line c = Levels.levels c.control.words.conf1 c.rx.count c.flight.count c.control.line

abbrev pub leveled_core : Core → Core
leveled_core c =
    with_control_of (with_level (Levels.level c.control.words.int_ena (leveled_line c)) (with_line (leveled_line c) c.control)) c

-- words as at reset, the line cleared, nothing in flight or received
abbrev pub cleared_core : Core → Core
cleared_core c = record {
  map = c.map;
  control = with_words c.map.reset (with_line (cleared_line c.control.line) c.control);
  receiving = c.receiving;
  byte = c.byte;
  flight = empty;
  tx = c.tx;
  host = c.host;
  runs = c.runs;
  rx = empty;
}

abbrev pub called_core : ℕ → Core → Core
called_core cycle c = with_control_of (with_wake (Arm.called cycle c.control.wake) c.control) c

module _ (cycle : ℕ) (c : Core) (a : Arrays) (ok : Valid c a) where
  pub dated-ok : cycle < date_end → Valid (dated_core cycle c) a
  unfolding dated
  dated-ok h = record {
    shape = shape_of c a _ ok.shape;
    within = through (abs c a) (abs (dated_core cycle c) a) (moved-parts cycle (abs c a) h) ok.within;
  }

  -- a power-down anywhere is within the limits
  pub put-down-ok : (d : Date) → Valid (with_control_of (with_powered_down_at d c.control) c) a
  put-down-ok d = record {
    shape = shape_of c a _ ok.shape;
    within = through (abs c a) (abs (with_control_of (with_powered_down_at d c.control) c) a) (λ p. p) ok.within;
  }

  pub clocked-ok : (period : ℕ) → period ≤ period_limit → Valid (clocked_core period c) a
  unfolding clocked
  clocked-ok period h = record {
    shape = shape_of c a _ ok.shape;
    within = through (abs c a) (abs (clocked_core period c) a) (clocked-parts period (abs c a) h) ok.within;
  }

  pub called-ok : Valid (called_core cycle c) a
  called-ok = record {
    shape = shape_of c a _ ok.shape;
    within =
        through (abs c a) (abs (called_core cycle c) a)
        (λ p. put_clock p (record {
          low = p.clock.low;
          high = p.clock.high;
          last = p.clock.last;
          wake = called-within cycle c.control.wake p.clock.wake;
        }))
        ok.within;
  }

-- what arming asks
pub ready : (c : Core) (a : Arrays) → Shape c a → c.control.period ≤ period_limit
    → Ready c a.gone_at × Held 64 c.runs × (length a.run_at ≡ 64)
ready c a k h = (record { flight = k.flight; slots = k.gone_at_slots; period = h }, k.runs, k.run_date_slots)

-- ---- what they stand for

pub leveled-abs : (c : Core) (a : Arrays) → abs (leveled_core c) a ≡ Settle.levels (abs c a)
unfolding Settle.levels
leveled-abs c a =
    sym (ap (λ (x : Control). with_control x (abs c a))
    (control-after c.control (elems-length (slot_of a.rx 0) 128 c.rx)
    (elems-length (sent_at a.gone_at a.flight) 129 c.flight) refl refl))

pub cleared-abs : (c : Core) (a : Arrays) → abs (cleared_core c) a ≡ cleared (abs c a)
unfolding cleared
cleared-abs c a = rw (elems-none (sent_at a.gone_at a.flight) 129 empty refl, elems-none (slot_of a.rx 0) 128 empty refl)

pub cleared-shape : (c : Core) (a : Arrays) → Shape c a → Shape (cleared_core c) a
cleared-shape c a k =
    let flight = empty-held 129 (omega arith) in
    let rx = empty-held 128 (omega arith) in
    search
