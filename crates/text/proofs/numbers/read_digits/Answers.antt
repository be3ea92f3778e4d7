-- `numbers::read_digits` meets its contract: by the laws of a digit more, of a byte that is none and of the end. Assumes nothing.
use Rattle.std.proofs.Common.{sym, ◌∙◌, arith, eqb-true}
use Rattle.std.proofs.lemmas.Bool.{eqb-false}
use Rattle.text.specs.Numbers.{some_number, no-digits, digit-on, no_digit, too_large, number-end, shifted-low, shifted-high}
use Rattle.text.proofs.numbers.read_digits.Goals as goal

pub returns-then-is_empty-clause-value : goal.returns-then-is_empty-clause-value
returns-then-is_empty-clause-value c = sym (no-digits _ _ _ (eqb-true _ _ (sym c.if-is_empty.ensures)))

pub loop-c-init : goal.loop-c-init
loop-c-init c = record { low = omega arith; rest = some_number _ _ _ (omega (arith, eqb-false _ _ (sym c.if-is_empty.ensures))) }

pub returns-in_err-d-clause-value : goal.returns-in_err-d-clause-value
returns-in_err-d-clause-value c =
    let w = c.loop-c in
    c.from_residual.ensures
    ∙ sym (w.invariant.rest ∙ no_digit _ _ _ _ w.value 16 c.loop-c-test.true (sym c.in_err-d.ensures) c.requires.1)

pub returns-then-d-base-clause-value : goal.returns-then-d-base-clause-value
returns-then-d-base-clause-value c =
    let w = c.loop-c in
    sym (w.invariant.rest ∙ no_digit _ _ _ _ w.value _ c.loop-c-test.true c.in_ok-d.ensures.0 c.if-d-base.true)

pub returns-then-value-most-clause-value : goal.returns-then-value-most-clause-value
returns-then-value-most-clause-value c =
    let a = c.args in
    let w = c.loop-c in
    let big = shifted-high a.base a.limit w.value c.in_ok-d.d c.requires.0 c.if-value-most.true in
    sym (w.invariant.rest ∙ too_large _ _ _ _ w.value _ c.loop-c-test.true c.in_ok-d.ensures.0 c.requires.0 big)

pub returns-then-d-limit-clause-value : goal.returns-then-d-limit-clause-value
returns-then-d-limit-clause-value c =
    let w = c.loop-c in
    sym (w.invariant.rest ∙ too_large _ _ _ _ w.value _ c.loop-c-test.true c.in_ok-d.ensures.0 c.requires.0 (omega arith))

pub loop-c-preserved : goal.loop-c-preserved
loop-c-preserved c =
    let w = c.loop-c in record {
      low = omega (arith, shifted-low c.args.base c.args.limit w.value c.requires.0 c.if-value-most.false);
      rest = w.invariant.rest ∙ digit-on _ _ _ _ w.value _ c.loop-c-test.true c.in_ok-d.ensures.0 c.if-d-base.false;
    }

pub returns-clause-value : goal.returns-clause-value
returns-clause-value c =
    let w = c.loop-c in sym (w.invariant.rest ∙ number-end _ _ _ _ w.value c.loop-c-test.false w.invariant.low)
