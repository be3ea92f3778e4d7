-- What the loop of `put::put_numbers` keeps.
use mathlib.Core.List.{map}
use Prim.Native.Nat.{◌*◌}
use lib.ListN.{take}
use Rattle.form.specs.Cells.{field_bytes, of_width}
use Rattle.park.specs.Puts.{Puts}
use Rattle.park.proofs.put.put_numbers.Given as goal

abbrev pub invariant-loop-n : goal.invariant-loop-n
invariant-loop-n l =
    Puts (l.width * l.n-index) (field_bytes (map (of_width l.width) (take l.n-index l.ns))) l.initial.out l.at l.out l.place
