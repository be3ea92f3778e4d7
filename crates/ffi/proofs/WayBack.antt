-- The way back: a core in plain numbers stands for that core. Assumes nothing.
use Rattle.std.specs.Prelude.{◌≡◌, refl, Some, None}
use Rattle.std.proofs.Common.{ap, ◌∙◌}
use Rattle.model.specs.Numbers.{choose}
use Rattle.model.specs.Names.{Date}
use Rattle.model.specs.declared.Source.{Source}
use Rattle.line.specs.Names.{Receiving}
use Rattle.device.specs.declared.Core.{Core}
use Rattle.ffi.specs.declared.OnTheLine.{OnTheLine}
use Rattle.ffi.specs.Plain.{date_of, source_of, receiving_of, core_of, plain_date, plain_source, on_the_line, plain_core}

date-back : (d : Date) → date_of (plain_date d) ≡ d
unfolding date_of plain_date choose
date-back None = refl
date-back (Some n) = refl

source-back : (s : Source) → source_of (plain_source s) ≡ s
unfolding source_of choose
source-back Source.None = refl
source-back Source.Sel0 = refl
source-back Source.Sel2 = refl

receiving-back : (r : Receiving) → receiving_of (on_the_line r).on (on_the_line r).timed_on (on_the_line r).heard ≡ r
unfolding receiving_of on_the_line choose
receiving-back None = refl
receiving-back (Some f) =
    ap (λ (s : Source). Some (record { timed_on = s; heard = f.heard })) (source-back f.timed_on)

-- a core with other values where an enum stands
abbrev with : Core → Source → Date → Date → Date → Receiving → Core
with c mistimed since wake down receiving = record {
  map = c.map;
  control = record {
    words = c.control.words;
    line = record {
      int_raw = c.control.line.int_raw;
      rx_mistimed = mistimed;
      idle_since = since;
      line_free_at = c.control.line.line_free_at;
    };
    period = c.control.period;
    last = c.control.last;
    wake = wake;
    watched = c.control.watched;
    powered_down_at = down;
    level = c.control.level;
  };
  receiving = receiving;
  byte = c.byte;
  flight = c.flight;
  tx = c.tx;
  host = c.host;
  runs = c.runs;
  rx = c.rx;
}

-- what a call gives as plain numbers, the next call takes for the same core
pub core-back : (c : Core) → core_of (plain_core c) ≡ c
unfolding core_of plain_core
core-back c =
    let line = c.control.line in
    let control = c.control in
    let since = date_of (plain_date line.idle_since) in
    let wake = date_of (plain_date control.wake) in
    let down = date_of (plain_date control.powered_down_at) in
    let on = on_the_line c.receiving in
    let receiving = receiving_of on.on on.timed_on on.heard in
    ap (λ (s : Source). with c s since wake down receiving) (source-back line.rx_mistimed)
    ∙ ap (λ (d : Date). with c line.rx_mistimed d wake down receiving) (date-back line.idle_since)
    ∙ ap (λ (d : Date). with c line.rx_mistimed line.idle_since d down receiving) (date-back control.wake)
    ∙ ap (λ (d : Date). with c line.rx_mistimed line.idle_since control.wake d receiving)
    (date-back control.powered_down_at)
    ∙ ap (λ (r : Receiving). with c line.rx_mistimed line.idle_since control.wake control.powered_down_at r)
    (receiving-back c.receiving)

-- so plain numbers that a call gave stand for one core and are its plain form: a refusal gives them back number by number
pub plain_back : (c : Core) → plain_core (core_of (plain_core c)) ≡ plain_core c
plain_back c = ap plain_core (core-back c)
