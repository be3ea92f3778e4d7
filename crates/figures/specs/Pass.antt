-- The figures in one pass over the frames. Assumes nothing.
use Rattle.std.specs.Prelude.{Option, Some, None, ltb, eqb}
use mathlib.Core.List.{List, [], ◌∷◌}
use Prim.Native.Nat.{ℕ, ◌+◌, ◌-◌, ◌<◌, ◌≤◌, min, max}
use Rattle.figures.specs.declared.report.Figures.{Figures}
use Rattle.figures.specs.declared.pass.SoFar.{SoFar}
use Rattle.figures.specs.Lists.{choose}
use Rattle.figures.specs.Figures.{Frame, lasts, mean_of, remainder_of}
use Rattle.figures.specs.Figures.{limit}

abbrev pub begun : SoFar
begun = record { frames = 0; end = 0; busy = 0; shortest = 0; longest = 0; quiet = 0; place = 0 }

unfoldable pub shorter_of : ℕ → ℕ → ℕ → ℕ
shorter_of frames shortest n = choose (eqb frames 0) n (min shortest n)

-- the quiet stretch before a frame; before the first there is none
unfoldable pub gap_to : ℕ → ℕ → ℕ → ℕ
gap_to frames end start = choose (eqb frames 0) 0 (start - end)

unfoldable pub next_place : ℕ → ℕ → ℕ → ℕ → ℕ
next_place frames quiet place gap = choose (eqb frames 0) place (choose (ltb quiet gap) (frames - 1) place)

-- one frame more
abbrev pub next : SoFar → Frame → SoFar
next s f = record {
  frames = s.frames + 1;
  end = f.end;
  busy = s.busy + lasts f;
  shortest = shorter_of s.frames s.shortest (lasts f);
  longest = max s.longest (lasts f);
  quiet = max s.quiet (gap_to s.frames s.end f.start);
  place = next_place s.frames s.quiet s.place (gap_to s.frames s.end f.start);
}

unfoldable pub place_in : ℕ → ℕ → Option ℕ
place_in frames place = choose (ltb frames 2) None (Some place)

abbrev pub finished : SoFar → Figures
finished s = record {
  busy = s.busy;
  shortest = s.shortest;
  longest = s.longest;
  quiet = s.quiet;
  at = place_in s.frames s.place;
  mean = mean_of s.busy s.frames;
  remainder = remainder_of s.busy s.frames;
}

-- a frame that may follow: the sum so far is at most where the last one ended, so that it fits
pub record Follows (s : SoFar) (start end : ℕ) : Type 0 where
  pub few : s.frames < limit
  pub sum : s.busy ≤ s.end
  pub after : s.end ≤ start
  pub whole : start ≤ end

-- all of some frames
unfoldable pub passed : SoFar → List Frame → SoFar
passed s [] = s
passed s (f ∷ fs) = passed (next s f) fs
