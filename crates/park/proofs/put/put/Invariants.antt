-- What the loop of `put::put` keeps.
use mathlib.Core.Path.{◌≡◌}
use Prim.Native.Nat.{◌+◌, ◌-◌}
use lib.ListN.{length}
use Rattle.form.specs.Cells.{low_first}
use Rattle.park.specs.Puts.{wrote}
use Rattle.park.proofs.put.put.Given as goal

abbrev pub invariant-loop-i : goal.invariant-loop-i
invariant-loop-i l =
    (length l.out ≡ length l.initial.out)
    × (wrote l.out (l.at + l.i) (low_first (l.width - l.i) l.rest) ≡ wrote l.initial.out l.at (low_first l.width l.n))
