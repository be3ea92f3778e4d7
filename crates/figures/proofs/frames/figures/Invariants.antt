-- What each loop of `frames::figures` keeps.
use lib.ListN.{length}
use Rattle.figures.proofs.OnePass.{Part}
use Rattle.figures.proofs.frames.figures.Given as goal

abbrev pub invariant-loop-start : goal.invariant-loop-start
invariant-loop-start l = Part l.starts l.ends l.so_far (length l.yielded)
