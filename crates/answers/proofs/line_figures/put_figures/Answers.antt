-- `line_figures::put_figures` meets its contract. Assumes nothing.
use Rattle.text.specs.Chains.{put_of, room_of, and_then}
use Rattle.figures.specs.Figures.{number}
use Rattle.text.specs.Decimal.{decimal_up_to}
use Rattle.text.specs.Digits.{letter}
use Rattle.answers.specs.LineFigures.{figures_text}
use Rattle.answers.proofs.line_figures.put_figures.Goals as goal

pub returns-in-Err : goal.returns-in-Err
unfolding number decimal_up_to letter
returns-in-Err c =
    put_of figures_text c.in-Err.is c.put.ensures

pub returns-in-Ok : goal.returns-in-Ok
returns-in-Ok c =
    let e = c.in-Ok.is in
    put_of figures_text e (and_then (and_then (and_then c.put_stretch-stretch.ensures c.put_field-mean.ensures)
    c.put_field-remainder.ensures) (λ _. c.put-in-Ok.ensures) (room_of figures_text e c.requires))
