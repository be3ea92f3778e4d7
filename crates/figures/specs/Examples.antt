-- The figures of a few lines, computed. Assumes nothing.
use Rattle.std.specs.Prelude.{◌≡◌, refl, Option, Some, None, Ok, [], ◌∷◌, ℕ, ◌-◌, ◌^◌}
use Rattle.figures.specs.Lists.{choose, total, least, greatest, first_place}
use Rattle.figures.specs.Figures.{frames_of, quiets_after, quiets, longest_place, mean_of, remainder_of, reported}
use Rattle.figures.specs.Figures.{ordered, fit, LineFigures, figures_of, number}

-- in the order of replay's line
abbrev line : (busy shortest longest quiet : ℕ) → Option ℕ → (mean remainder : ℕ) → LineFigures
line busy shortest longest quiet at mean remainder =
    Ok (record {
      busy = busy;
      shortest = shortest;
      longest = longest;
      quiet = quiet;
      at = at;
      mean = mean;
      remainder = remainder;
    })

record Examples : Type 0 where
  -- 0 to 10, 14 to 20, 25 to 28, 30 to 31
  four : figures_of (0 ∷ 14 ∷ 25 ∷ 30 ∷ []) (10 ∷ 20 ∷ 28 ∷ 31 ∷ []) ≡ line 20 1 10 5 (Some 1) 5 0
  -- two stretches of 5: the earlier one
  earliest : figures_of (0 ∷ 15 ∷ 25 ∷ []) (10 ∷ 20 ∷ 28 ∷ []) ≡ line 18 3 10 5 (Some 0) 6 0
  -- frames that touch
  touching : figures_of (0 ∷ 1 ∷ []) (1 ∷ 3 ∷ []) ≡ line 3 1 2 0 (Some 0) 1 1
  -- a frame of no length is one
  no_length : figures_of (7 ∷ 7 ∷ []) (7 ∷ 7 ∷ []) ≡ line 0 0 0 0 (Some 0) 0 0
  -- before the first frame there is no stretch
  one : figures_of (5 ∷ []) (9 ∷ []) ≡ line 4 4 4 0 None 4 0
  none : figures_of [] [] ≡ line 0 0 0 0 None 0 0
  -- the longest frame of 64 bits
  widest : figures_of (0 ∷ []) ((2 ^ 64 - 1) ∷ []) ≡ line (2 ^ 64 - 1) (2 ^ 64 - 1) (2 ^ 64 - 1) 0 None (2 ^ 64 - 1) 0
  -- a frame ends before it starts, or starts before the one before it ends, or has no end
  ends-early : number (figures_of (5 ∷ []) (4 ∷ [])) ≡ 9
  starts-early : number (figures_of (0 ∷ 4 ∷ []) (5 ∷ 6 ∷ [])) ≡ 9
  no_end : number (figures_of (0 ∷ 4 ∷ []) (5 ∷ [])) ≡ 9

examples : Examples
unfolding choose total least greatest first_place frames_of quiets_after quiets longest_place mean_of remainder_of reported
    ordered fit figures_of number
examples =
    record {
      four = refl;
      earliest = refl;
      touching = refl;
      no_length = refl;
      one = refl;
      none = refl;
      widest = refl;
      ends-early = refl;
      starts-early = refl;
      no_end = refl;
    }
