-- `source::unmodelled_source` meets its contract, case by case. Assumes nothing.
use mathlib.Core.Path.{sym, ap, ◌∙◌}
use native.Mathlib.Omega.{arith}
use Rattle.model.specs.Timing.{unmodelled, unmodelled_source}
use Rattle.timing.specs.Cases.{modelled}
use Rattle.timing.proofs.source.unmodelled_source.Goals as goal

pub returns-in-0 : goal.returns-in-0
unfolding unmodelled_source unmodelled
returns-in-0 c = sym (ap unmodelled (sym c.sclk_sel-sel.ensures ∙ c.in-0.is))

pub returns-in-1 : goal.returns-in-1
unfolding unmodelled_source unmodelled
returns-in-1 c = sym (ap unmodelled (sym c.sclk_sel-sel.ensures ∙ c.in-1.is))

pub returns-in-2 : goal.returns-in-2
unfolding unmodelled_source unmodelled
returns-in-2 c = sym (ap unmodelled (sym c.sclk_sel-sel.ensures ∙ c.in-2.is))

pub returns-in_default : goal.returns-in_default
unfolding unmodelled_source
returns-in_default c =
    sym (modelled _ (omega (
      arith,
      c.sclk_sel-sel.ensures,
      c.in_default.in_default-own.rest.0.0.1,
      c.in_default.in_default-own.rest.0.1,
      c.in_default.in_default-own.rest.1,
    )))
