-- `numbers::read_number` meets its contract: by the length, and by the test for `0x` in front. Assumes nothing.
use Rattle.std.proofs.Common.{◌∙◌}
use Rattle.text.specs.Numbers.{number_of, prefix-short, prefix-front}
use Rattle.text.proofs.numbers.read_number.Goals as goal

pub returns-then-s-lt2-clause-value : goal.returns-then-s-lt2-clause-value
unfolding number_of
returns-then-s-lt2-clause-value c = c.read_digits.ensures.value ∙ simp (prefix-short c.args.s.now c.if-s-lt2.true)

pub returns-in-Some-clause-value : goal.returns-in-Some-clause-value
unfolding number_of
returns-in-Some-clause-value c =
    let p = c.in-Some.ensures.cases in
    c.read_digits-in-Some.ensures.value ∙ rw (prefix-front c.args.s.now, p.0, p.1)

pub returns-in-None-clause-value : goal.returns-in-None-clause-value
unfolding number_of
returns-in-None-clause-value c = c.read_digits-in-None.ensures.value ∙ rw (prefix-front c.args.s.now, c.in-None.ensures.cases)
