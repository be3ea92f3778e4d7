-- What each loop of `spelling::spell_decimal` keeps, and what gets less.
use mathlib.Core.Path.{◌≡◌}
use mathlib.Core.List.{◌++◌}
use Prim.Native.Nat.{suc, ◌+◌, ◌^◌, ◌<◌, ◌≤◌}
use lib.ListN.{length, drop}
use Rattle.text.specs.Decimal.{decimal, decimal_up_to}
use Rattle.text.proofs.spelling.spell_decimal.Given as goal

abbrev pub invariant-loop-rest : goal.invariant-loop-rest
invariant-loop-rest l =
    (l.start ≤ 19) × (length l.to ≡ 20) × (l.rest < 10 ^ suc l.start)
    × (decimal l.n ≡ decimal_up_to l.start l.rest ++ drop (l.start + 1) l.to)

abbrev pub decreases-loop-rest : goal.decreases-loop-rest
decreases-loop-rest l = l.rest
