-- What the loop of `numbers::read_digits` keeps: the number is that of the digits that are left, after the value so far.
use Rattle.std.proofs.Common.{◌≡◌, ◌≤◌, drop}
use Rattle.text.specs.Numbers.{number_in, number_after}
use Rattle.text.proofs.numbers.read_digits.Given as goal

abbrev pub invariant-loop-c : goal.invariant-loop-c
invariant-loop-c l = record {
  low : l.value ≤ l.limit;
  rest : number_in l.base l.limit l.s ≡ number_after l.base l.limit l.value (drop l.c-index l.s);
}
