-- What the loop of `notices::put_notices` keeps.
use mathlib.Core.Path.{◌≡◌}
use Prim.Native.Nat.{◌≤◌}
use lib.ListN.{length}
use Rattle.text.specs.Chains.{Puts}
use Rattle.answers.specs.Notices.{later_texts}
use Rattle.answers.proofs.notices.put_notices.Given as goal

abbrev pub invariant-loop-i : goal.invariant-loop-i
invariant-loop-i l =
    (1 ≤ l.i) × (l.i ≤ l.count) × (l.count ≤ 8) × (length l.out ≡ length l.initial.out)
    × Puts (later_texts l.i l.notices) l.initial.out l.initial.place l.out l.place
