-- What the loop of `call::put_sixteen` keeps.
use mathlib.Core.Path.{◌≡◌}
use lib.ListN.{length, take}
use Rattle.blanking.specs.Entries.{numbers}
use Rattle.blanking.specs.Puts.{Puts}
use Rattle.blanking.proofs.call.put_sixteen.Given as goal

abbrev pub invariant-loop-word : goal.invariant-loop-word
invariant-loop-word l =
    (length l.out ≡ length l.initial.out) × Puts (numbers (take l.word-index l.word-items)) l.initial.out l.at l.out l.place
