-- What the loop of `hex::read_pairs` keeps.
use Rattle.std.proofs.Common.{◌≡◌, ◌++◌, ◌*◌, take, drop}
use Rattle.text.specs.Hexes.{spelled}
use Rattle.text.proofs.hex.read_pairs.Given as goal

abbrev pub invariant-loop-n : goal.invariant-loop-n
invariant-loop-n l = record {
  front : spelled l.s ≡ take l.n l.to ++ spelled (drop (2 * l.n) l.s);
  back : drop l.n l.to ≡ drop l.n l.initial.to;
}
