-- The answer line of `figures`. Assumes nothing.
use Rattle.std.specs.Prelude.{Option, Some, None, Ok, Err, List, ◌++◌, ℕ, ◌≤◌, length}
use Rattle.std.proofs.Common.{arith, length-append}
use Rattle.text.specs.Ascii.{ascii}
use Rattle.text.specs.Decimal.{decimal}
use Rattle.figures.specs.Figures.{LineFigures, number}
use Rattle.figures.specs.declared.report.Figures.{Figures}
use Rattle.answers.specs.Lengths.{decimal-short}

-- the place of the frame before the longest quiet stretch, or `-`
abbrev pub place_text : Option ℕ → List ℕ
place_text None = ascii " at=-"
place_text (Some place) = ascii " at=" ++ decimal place

abbrev pub stretch_text : Figures → List ℕ
stretch_text f =
    (ascii "0 busy=" ++ decimal f.busy) ++ (ascii " shortest=" ++ decimal f.shortest) ++ (ascii " longest=" ++ decimal f.longest)
    ++ (ascii " quiet=" ++ decimal f.quiet) ++ place_text f.at

-- a refusal is its number alone
abbrev pub figures_text : LineFigures → List ℕ
figures_text (Ok f) =
    stretch_text f ++ (ascii " mean=" ++ decimal f.mean) ++ (ascii " remainder=" ++ decimal f.remainder) ++ ascii "\n"
figures_text (Err e) = decimal (number (Err e)) ++ ascii "\n"

-- ---- laws

-- however large the numbers, it is short
place_short : (place : Option ℕ) → length (place_text place) ≤ 24
place_short None = omega arith
place_short (Some place) = simp length-append (omega (arith, decimal-short place))

pub figures-short : (answer : LineFigures) → length (figures_text answer) ≤ 1024
figures-short (Ok f) =
    simp length-append (omega (
      arith,
      decimal-short f.busy,
      decimal-short f.shortest,
      decimal-short f.longest,
      decimal-short f.quiet,
      place_short f.at,
      decimal-short f.mean,
      decimal-short f.remainder,
    ))
figures-short (Err e) = simp length-append (omega (arith, decimal-short (number (Err e))))
