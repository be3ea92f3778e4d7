-- What is left to do is to read the pairs from n on, and to store them there.
use mathlib.Core.Path.{◌≡◌}
use Prim.Native.Nat.{◌-◌}
use lib.ListN.{length}
use Rattle.trace.specs.Pairs.{pairs_at, pairs_from}
use Rattle.trace.specs.Stored.{stored, stored_from}
use Rattle.trace.proofs.pairs.read_pairs.Given as goal

abbrev pub invariant-loop-n : goal.invariant-loop-n
invariant-loop-n l =
    ((pairs_at l.s l.from).step ≡ (pairs_from l.s (length l.s - l.n) l.n l.at).step)
    × (stored (pairs_at l.s l.from).firsts l.initial.firsts
    ≡ stored_from l.n (pairs_from l.s (length l.s - l.n) l.n l.at).firsts l.firsts)
    × (stored (pairs_at l.s l.from).seconds l.initial.seconds
    ≡ stored_from l.n (pairs_from l.s (length l.s - l.n) l.n l.at).seconds l.seconds)
