-- `save::save_numbers` meets its contract: six puts, one behind the other. Assumes nothing.
use mathlib.Core.Path.{◌≡◌, refl}
use Prim.Native.Nat.{◌+◌, ◌*◌}
use native.Mathlib.Omega.{arith}
use Rattle.park.specs.Puts.{puts-both, puts-same}
use Rattle.park.specs.Saves.{numbers_in}
use Rattle.park.proofs.save.save_numbers.Goals as goal

pub returns : goal.returns
unfolding numbers_in
returns c =
    let dates = c in
    let line = c in
    let control = c in
    let words = c in
    let map = c in
    let head = c in
    let flying = c.args.core.flight.count in
    let all : 30 + (108 + (36 + (36 + (24 + 8 * flying)))) ≡ 234 + 8 * flying = omega arith in
    puts-same all refl
    (puts-both c.put_head-headed.ensures (puts-both c.put_map-placed.ensures (puts-both c.put_words-stored.ensures
    (puts-both c.put_control-dated.ensures (puts-both c.put_line-marked.ensures c.put_dates.ensures)))))
