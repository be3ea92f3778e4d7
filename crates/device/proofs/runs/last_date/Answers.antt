-- `runs::last_date` meets its contract, by whether a run waits. Assumes nothing.
use native.Mathlib.Omega.{arith}
use mathlib.Core.Path.{ap, ◌∙◌}
use lib.ListN.{get_or}
use Rattle.device.specs.Joins.{last_none, last_some}
use Rattle.device.proofs.runs.last_date.Goals as goal

pub bounds-run_at-last : goal.bounds-run_at-last
bounds-run_at-last c = omega (arith, c.last-last.ensures.1, c.requires.1)

pub returns-then-runs-gt0 : goal.returns-then-runs-gt0
returns-then-runs-gt0 c =
    λ counts. ap (λ k. get_or c.args.run_at.now k 0) c.last-last.ensures.0
    ∙ last_some c.args.run_at.now counts c.args.runs
    c.if-runs-gt0.true

pub returns : goal.returns
returns c = λ counts. last_none c.args.run_at.now counts c.args.runs c.if-runs-gt0.false
