-- The figures of a line's frames, in subcycles, and which frames are refused. Assumes nothing.
use Rattle.std.specs.Prelude.{Bool, true, false, Option, Some, None, Result, Ok, Err, ℕ, ◌-◌, ◌/◌, ◌%◌, ltb, eqb, length}
use mathlib.Core.List.{List, [], ◌∷◌, map}
use Rattle.figures.specs.declared.report.Figures.{Figures}
use Rattle.figures.specs.declared.report.UnfitFrames.{UnfitFrames}
use Rattle.figures.specs.Lists.{choose, total, least, greatest, first_place}

pub record Frame : Type 0 where
  pub start : ℕ
  pub end : ℕ

abbrev pub frame : ℕ → ℕ → Frame
frame start end = record { start = start; end = end }

-- the frames of two lists of one length, starts and ends
unfoldable pub frames_of : List ℕ → List ℕ → List Frame
frames_of [] ends = []
frames_of (s ∷ starts) [] = []
frames_of (s ∷ starts) (e ∷ ends) = frame s e ∷ frames_of starts ends

-- how long a frame lasts
abbrev pub lasts : Frame → ℕ
lasts f = f.end - f.start

-- the quiet stretches: from a frame's end to the next one's start
unfoldable pub quiets_after : ℕ → List Frame → List ℕ
quiets_after end [] = []
quiets_after end (f ∷ fs) = (f.start - end) ∷ quiets_after f.end fs

unfoldable pub quiets : List Frame → List ℕ
quiets [] = []
quiets (f ∷ fs) = quiets_after f.end fs

-- the place of a stretch is that of the frame before it; the earliest of the longest
unfoldable pub longest_place : List ℕ → Option ℕ
longest_place [] = None
longest_place (q ∷ qs) = Some (first_place (greatest (q ∷ qs)) (q ∷ qs))

-- the mean of so many frames; no frame gives zeros
unfoldable pub mean_of : ℕ → ℕ → ℕ
mean_of busy frames = choose (eqb frames 0) 0 (busy / frames)

unfoldable pub remainder_of : ℕ → ℕ → ℕ
remainder_of busy frames = choose (eqb frames 0) 0 (busy % frames)

unfoldable pub reported : List Frame → Figures
reported fs = record {
  busy = total (map lasts fs);
  shortest = least (map lasts fs);
  longest = greatest (map lasts fs);
  quiet = greatest (quiets fs);
  at = longest_place (quiets fs);
  mean = mean_of (total (map lasts fs)) (length fs);
  remainder = remainder_of (total (map lasts fs)) (length fs);
}

-- the longest list of frames
abbrev pub limit : ℕ
limit = 1024

-- no frame starts before the one before it ends, the first not before `free`, and none ends before it starts
unfoldable pub ordered : ℕ → List Frame → Bool
ordered free [] = true
ordered free (f ∷ fs) = choose (ltb f.start free) false (choose (ltb f.end f.start) false (ordered f.end fs))

unfoldable pub fit : List ℕ → List ℕ → Bool
fit starts ends =
    choose (eqb (length starts) (length ends)) (choose (ltb limit (length starts)) false (ordered 0 (frames_of starts ends))) false

-- the figures, or that the frames are refused
abbrev pub LineFigures : Type 0
LineFigures = Result Figures UnfitFrames

abbrev pub refused : LineFigures
refused = Err (record {})

unfoldable pub figures_of : List ℕ → List ℕ → LineFigures
figures_of starts ends = choose (fit starts ends) (Ok (reported (frames_of starts ends))) refused

-- the paper's number: 0 is done
unfoldable pub number : LineFigures → ℕ
number (Ok f) = 0
number (Err e) = 9
