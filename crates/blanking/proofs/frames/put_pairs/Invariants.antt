-- What the loop of `frames::put_pairs` keeps.
use mathlib.Core.Path.{◌≡◌}
use lib.ListN.{length, take}
use Rattle.blanking.specs.Entries.{pairs}
use Rattle.blanking.specs.Puts.{Puts}
use Rattle.blanking.proofs.frames.put_pairs.Given as goal

abbrev pub invariant-loop-start : goal.invariant-loop-start
invariant-loop-start l =
    (length l.out ≡ length l.initial.out)
    × Puts (pairs (take (length l.yielded) l.starts) (take (length l.yielded) l.ends)) l.initial.out l.at l.out l.place
