-- What the loop of `offsets::repeated` keeps.
use mathlib.Core.Path.{◌≡◌}
use lib.ListN.{drop}
use Rattle.model.specs.Tests.{repeated}
use Rattle.replies.proofs.offsets.repeated.Given as goal

abbrev pub invariant-loop-at : goal.invariant-loop-at
invariant-loop-at l = repeated (drop l.at l.offset-items) ≡ repeated l.offset-items
