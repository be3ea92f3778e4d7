-- The figures of a line in plain numbers. Assumes nothing.
use Rattle.std.specs.Prelude.{ℕ, true, false, Option, Some, None, Ok, Err}
use Rattle.figures.specs.Figures.{LineFigures, number}
use Rattle.ffi.specs.declared.line_figures.PlainPlace.{PlainPlace}
use Rattle.ffi.specs.declared.line_figures.PlainFigures.{PlainFigures}

unfoldable pub plain_place : Option ℕ → PlainPlace
plain_place None = record { placed = false; at = 0 }
plain_place (Some n) = record { placed = true; at = n }

-- of frames that are refused all but the number is 0
unfoldable pub plain_figures : LineFigures → PlainFigures
plain_figures (Ok f) = record {
  number = number (Ok f);
  placed = (plain_place f.at).placed;
  busy = f.busy;
  shortest = f.shortest;
  longest = f.longest;
  quiet = f.quiet;
  at = (plain_place f.at).at;
  mean = f.mean;
  remainder = f.remainder;
}
plain_figures (Err e) = record {
  number = number (Err e);
  placed = false;
  busy = 0;
  shortest = 0;
  longest = 0;
  quiet = 0;
  at = 0;
  mean = 0;
  remainder = 0;
}
