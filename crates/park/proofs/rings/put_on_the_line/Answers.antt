-- `rings::put_on_the_line` meets its contract, by its cases. Assumes nothing.
use mathlib.Core.Path.{◌≡◌, ap}
use native.Mathlib.Omega.{arith}
use Rattle.device.specs.Holds.{on_the_line}
use Rattle.park.specs.Puts.{put-nothing, put_one}
use Rattle.park.specs.Rings.{line_count}
use Rattle.park.proofs.rings.put_on_the_line.Goals as goal

pub bounds-out-at : goal.bounds-out-at
bounds-out-at c =
    let one : line_count c.args.receiving ≡ 1 = ap line_count c.in-Some.is in
    omega (arith, one, c.requires)

pub returns-in-None : goal.returns-in-None
unfolding on_the_line
returns-in-None c = rw c.in-None.is (put-nothing _ _)

pub returns-in-Some : goal.returns-in-Some
unfolding on_the_line
returns-in-Some c = rw c.in-Some.is (put_one _ _ _)
