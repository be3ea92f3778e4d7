-- `input::blank_next` meets its contract. Assumes nothing.
use native.Mathlib.Omega.{arith}
use mathlib.Core.Path.{sym, ◌∙◌}
use mathlib.Core.Logic.{inl, inr}
use Rattle.streams.specs.Outputs.{kept_same}
use Rattle.streams.proofs.OutputLaws.{kept-room}
use Rattle.blank.specs.Turns.{Turn}
use Rattle.blank.proofs.input.blank_next.Goals as goal

pub returns-then-kept : goal.returns-then-kept
returns-then-kept c =
    Turn.passed (kept_same _ _ _ _ _ c.has_line-has.ensures c.keep_up-kept.ensures)
    (inr c.if-kept.true)

pub blank_line-next-requires : goal.blank_line-next-requires
blank_line-next-requires c =
    omega (
      arith,
      kept-room c.keep_up-kept.ensures c.if-kept.false,
    )

pub returns-then-has : goal.returns-then-has
returns-then-has c =
    let line = c.has_line-has.ensures in
    let next = c.blank_line-next.ensures in
    let n = c.within-n.ensures.value in
    Turn.blanked (kept_same _ _ _ _ _ line c.keep_up-kept.ensures) (sym line ∙ c.if-has.true)
    c.if-kept.false
    (rw n at next.put) (next.trace_value ∙ rw n)

pub returns : goal.returns
returns c =
    let line = c.has_line-has.ensures in
    Turn.passed (kept_same _ _ _ _ _ line c.keep_up-kept.ensures) (inl (sym line ∙ c.if-has.false))
