-- What plain numbers stand for, and a core in plain numbers. Assumes nothing.
use Rattle.std.specs.Prelude.{Bool, true, false, ℕ, eqb, Some, None}
use Rattle.model.specs.Numbers.{choose}
use Rattle.model.specs.Names.{Date}
use Rattle.model.specs.declared.Source.{Source}
use Rattle.model.specs.declared.Line.{Line}
use Rattle.model.specs.declared.Control.{Control}
use Rattle.line.specs.Names.{Receiving}
use Rattle.device.specs.declared.Core.{Core}
use Rattle.ffi.specs.declared.PlainDate.{PlainDate}
use Rattle.ffi.specs.declared.PlainCore.{PlainCore}
use Rattle.ffi.specs.declared.OnTheLine.{OnTheLine}

-- ---- from plain numbers

unfoldable pub date_of : PlainDate → Date
date_of d = choose d.set (Some d.at) None

-- one more than an SCLK_SEL; 0, and any number that is no source's, for none
unfoldable pub source_of : ℕ → Source
source_of n = choose (eqb n 1) Source.Sel0 (choose (eqb n 3) Source.Sel2 Source.None)

unfoldable pub receiving_of : Bool → ℕ → Bool → Receiving
receiving_of on source heard =
    choose on (Some (record { timed_on = source_of source; heard = heard })) None

abbrev pub line_of : PlainCore → Line
line_of p = record {
  int_raw = p.int_raw;
  rx_mistimed = source_of p.rx_mistimed;
  idle_since = date_of p.idle_since;
  line_free_at = p.line_free_at;
}

abbrev pub control_of : PlainCore → Control
control_of p = record {
  words = p.words;
  line = line_of p;
  period = p.period;
  last = p.last;
  wake = date_of p.wake;
  watched = p.watched;
  powered_down_at = date_of p.powered_down_at;
  level = p.level;
}

unfoldable pub core_of : PlainCore → Core
core_of p = record {
  map = p.map;
  control = control_of p;
  receiving = receiving_of p.on_the_line p.timed_on p.heard;
  byte = p.byte;
  flight = p.flight;
  tx = p.tx;
  host = p.host;
  runs = p.runs;
  rx = p.rx;
}

-- ---- to plain numbers

unfoldable pub plain_date : Date → PlainDate
plain_date None = record { set = false; at = 0 }
plain_date (Some n) = record { set = true; at = n }

abbrev pub plain_source : Source → ℕ
plain_source Source.None = 0
plain_source Source.Sel0 = 1
plain_source Source.Sel2 = 3

unfoldable pub on_the_line : Receiving → OnTheLine
on_the_line None = record { on = false; timed_on = 0; heard = false }
on_the_line (Some f) = record { on = true; timed_on = plain_source f.timed_on; heard = f.heard }

unfoldable pub plain_core : Core → PlainCore
plain_core c = record {
  map = c.map;
  words = c.control.words;
  int_raw = c.control.line.int_raw;
  rx_mistimed = plain_source c.control.line.rx_mistimed;
  idle_since = plain_date c.control.line.idle_since;
  line_free_at = c.control.line.line_free_at;
  period = c.control.period;
  last = c.control.last;
  wake = plain_date c.control.wake;
  powered_down_at = plain_date c.control.powered_down_at;
  timed_on = (on_the_line c.receiving).timed_on;
  on_the_line = (on_the_line c.receiving).on;
  heard = (on_the_line c.receiving).heard;
  watched = c.control.watched;
  level = c.control.level;
  flight = c.flight;
  tx = c.tx;
  host = c.host;
  runs = c.runs;
  rx = c.rx;
  byte = c.byte;
}
