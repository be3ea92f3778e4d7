-- What is left to do is to read the numbers from i on, and to store them there.
use mathlib.Core.Path.{◌≡◌}
use Prim.Native.Nat.{◌-◌}
use Rattle.trace.specs.Numbers.{numbers_from}
use Rattle.trace.specs.Stored.{stored, stored_from}
use Rattle.trace.proofs.numbers.read_each.Given as goal

abbrev pub invariant-loop-i : goal.invariant-loop-i
invariant-loop-i l =
    ((numbers_from l.s l.wide 0 l.count l.from).end ≡ (numbers_from l.s l.wide l.i (l.count - l.i) l.at).end)
    × (stored (numbers_from l.s l.wide 0 l.count l.from).values l.initial.to
    ≡ stored_from l.i (numbers_from l.s l.wide l.i (l.count - l.i) l.at).values l.to)
