-- Within the limits, part by part: each part speaks of as little of the state as it can, so that a step that leaves a part
-- alone carries its facts over as they are. Assumes nothing.
use Rattle.std.specs.Prelude.{◌≡◌, refl, ℕ, ◌+◌, ◌≤◌, ◌<◌, Bool, true, false, List, length, None}
use Rattle.std.proofs.Common.{ap, ◌∙◌}
use Rattle.std.proofs.lemmas.Bool.{false≢true}
use Rattle.std.proofs.Math.Option.{Option, none, some}
use Rattle.std.specs.Int.Bits.{bit_and}
use Rattle.dates.specs.Dates
use Rattle.model.specs.Events
use Rattle.model.specs.State.{OnTheLine, Sent, Run, Uart}
use Rattle.model.specs.Line.{fifo_bytes}
use Rattle.model.specs.Tests.{repeated, date_end, sent_limit, host_limit, runs_limit, period_limit}
use Rattle.model.specs.SetUp.{fifo_counts}
use Rattle.model.specs.Limits.{Chain, All, NoLater, flight_dates, run_dates, run_counts, Fits, Within}
use Rattle.model.specs.Names.{Date}
use Rattle.model.specs.declared.RegisterMap.{RegisterMap}
use Rattle.model.specs.declared.Line.{Line}

abbrev pub MapWithin : RegisterMap → Type 0
MapWithin m =
    record {
      sixteen : length m.offsets ≡ 16;
      offsets : repeated m.offsets ≡ false;
      status : bit_and m.idle_status fifo_counts ≡ 0;
    }

-- the period, the last date and the wake
abbrev pub ClockWithin : ℕ → ℕ → Date → Type 0
ClockWithin period last wake = record {
  low : 1 ≤ period;
  high : period ≤ period_limit;
  last : last
      < date_end;
  wake : NoLater date_end wake;
}

-- the bytes in flight and those that have left
abbrev pub FlightWithin : {W : Type 0} → List (Sent W) → List W → Type 0
FlightWithin ss tx = record {
  flying : length ss ≤ fifo_bytes + 1;
  order : Chain ◌≤◌ (flight_dates ss);
  fit : All Fits (flight_dates ss);
  sent : length tx + length ss ≤ sent_limit;
}

-- the host bytes that wait
abbrev pub HostWithin : {H : Type 0} → List Run → List H → Type 0
HostWithin rs bs = record {
  runs : length rs ≤ runs_limit;
  counts : All (λ n. 1 ≤ n) (run_counts rs);
  order : Chain ◌<◌ (run_dates rs);
  fit : All Fits (run_dates rs);
  total : Events.total (λ r. r.count) rs ≡ length bs;
  host : length bs ≤ host_limit;
}

abbrev pub is_heard : {H : Type 0} → Option (OnTheLine H) → Bool
is_heard none = false
is_heard (some l) = l.frame.heard

heard-one : {H : Type 0} (o : Option (OnTheLine H)) {P : Type 0} → ((l : OnTheLine H) → o ≡ some l → l.frame.heard ≡ true → P)
    → is_heard o ≡ true → P
heard-one none k e = absurd (false≢true e)
heard-one (some l) k e = k l refl e

-- the line: whether a heard byte is on it, since when it is idle, and when it is free
abbrev pub LineWithin : Bool → Line → Type 0
LineWithin heard l =
    record { idle : heard ≡ true → l.idle_since ≡ None; free : Fits l.line_free_at; since : NoLater Dates.last l.idle_since }

-- the six parts, and one of them replaced
abbrev pub Six : Type 0 → Type 0 → Type 0 → Type 0 → Type 0 → Type 0 → Type 0
Six M C F R H L = record { map : M; clock : C; flight : F; rx : R; host : H; line : L }

module _ {M C F R H L : Type 0} (p : Six M C F R H L) where
  pub put_clock : {X : Type 0} → X → Six M X F R H L
  put_clock x = record { map = p.map; clock = x; flight = p.flight; rx = p.rx; host = p.host; line = p.line }

  pub put_flight : {X : Type 0} → X → Six M C X R H L
  put_flight x = record { map = p.map; clock = p.clock; flight = x; rx = p.rx; host = p.host; line = p.line }

  pub put_rx : {X : Type 0} → X → Six M C F X H L
  put_rx x = record { map = p.map; clock = p.clock; flight = p.flight; rx = x; host = p.host; line = p.line }

  pub put_host : {X : Type 0} → X → Six M C F R X L
  put_host x = record { map = p.map; clock = p.clock; flight = p.flight; rx = p.rx; host = x; line = p.line }

  pub put_line : {X : Type 0} → X → Six M C F R H X
  put_line x = record { map = p.map; clock = p.clock; flight = p.flight; rx = p.rx; host = p.host; line = x }

module _ {H W : Type 0} (u : Uart H W) where
  abbrev pub Parts : Type 0
  Parts =
      Six (MapWithin u.map) (ClockWithin u.control.period u.control.last u.control.wake) (FlightWithin u.in_flight u.tx)
      (length u.rx ≤ fifo_bytes) (HostWithin u.host_runs u.host) (LineWithin (is_heard u.receiving) u.control.line)

  pub apart : Within u → Parts
  apart w = record {
    map = record { sixteen = w.sixteen; offsets = w.offsets; status = w.status };
    clock = record { low = w.period_low; high = w.period_high; last = w.last; wake = w.wake };
    flight = record { flying = w.flying; order = w.flying_dates; fit = w.flying_fits; sent = w.sent };
    rx = w.received;
    host = record { runs = w.runs; counts = w.run_count; order = w.run_order; fit = w.runs_fit; total = w.run_sum; host = w.host };
    line = record { idle = heard-one u.receiving w.idle_line; free = w.line_fits; since = w.idle_fits };
  }

  pub together : Parts → Within u
  together p = record {
    sixteen = p.map.sixteen;
    offsets = p.map.offsets;
    period_low = p.clock.low;
    period_high = p.clock.high;
    last = p.clock.last;
    wake = p.clock.wake;
    flying = p.flight.flying;
    flying_dates = p.flight.order;
    sent = p.flight.sent;
    received = p.rx;
    runs = p.host.runs;
    run_count = p.host.counts;
    run_order = p.host.order;
    run_sum = p.host.total;
    host = p.host.host;
    status = p.map.status;
    idle_line = λ l e h. p.line.idle (ap is_heard e ∙ h);
    flying_fits = p.flight.fit;
    runs_fit = p.host.fit;
    line_fits = p.line.free;
    idle_fits = p.line.since;
  }

-- what keeps the parts keeps the whole
pub through : {H W : Type 0} (u v : Uart H W) → (Parts u → Parts v) → Within u → Within v
through u v f w = together v (f (apart u w))
