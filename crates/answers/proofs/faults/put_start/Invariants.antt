-- What the loop of `faults::put_start` keeps.
use mathlib.Core.Path.{◌≡◌}
use mathlib.Core.List.{map}
use Prim.Native.Nat.{◌-◌, ◌≤◌}
use lib.ListN.{length, take, drop}
use Rattle.text.specs.Chains.{Puts}
use Rattle.answers.specs.Faults.{shown}
use Rattle.answers.proofs.faults.put_start.Given as goal

abbrev pub invariant-loop-i : goal.invariant-loop-i
invariant-loop-i l =
    (l.start ≤ l.i) × (l.i - l.start ≤ l.end - l.start) × (l.i - l.start ≤ 40) × (length l.out ≡ length l.initial.out)
    × Puts (map shown (take (l.i - l.start) (drop l.start l.s))) l.initial.out l.at l.out l.place
