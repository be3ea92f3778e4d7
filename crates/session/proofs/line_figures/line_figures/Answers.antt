-- `line_figures::line_figures` meets its contract: the figures are told, and the session is as it was. Assumes nothing.
use mathlib.Core.Path.{refl, ap}
use native.Mathlib.Omega.{arith}
use Rattle.trace.specs.Pairs.{firsts_in, seconds_in}
use Rattle.answers.specs.LineFigures.{figures_text, figures-short}
use Rattle.session.specs.Requests.{tells}
use Rattle.session.specs.Sessions.{stands_for}
use Rattle.session.specs.Answers.{moved}
use Rattle.session.proofs.line_figures.line_figures.Goals as goal

pub put_figures-at-requires : goal.put_figures-at-requires
put_figures-at-requires c = record { fits = omega (arith, figures-short c.figures_of.result) }

pub returns : goal.returns
returns c =
    let far = c in
    let a = c.args in
    moved c.put_figures-at.ensures
    (tells (firsts_in a.s.now) (seconds_in a.s.now) (stands_for a.session)) a.session
    (ap figures_text c.figures_of.ensures) refl c.requires.good c.with_output.ensures
