-- `put::put_numbers` meets its contract. The loop's invariant: the numbers so far are put. Assumes nothing.
use mathlib.Core.Path.{◌≡◌, refl, sym, ap}
use mathlib.Core.List.{List, map, flat_map}
use Prim.Native.Nat.{ℕ, ◌*◌}
use native.Mathlib.Nat.{mul-zero}
use native.Mathlib.Omega.{arith}
use lib.ListN.{length}
use lib.Seq.{take_all}
use Rattle.form.specs.Cells.{field_bytes, of_width}
use Rattle.park.specs.Puts.{put-nothing, puts-same}
use Rattle.park.specs.Fields.{puts-number, one-fits}
use Rattle.park.proofs.put.put_numbers.Goals as goal

pub loop-n-init : goal.loop-n-init
unfolding field_bytes flat_map
loop-n-init c = puts-same (sym (mul-zero _)) refl (put-nothing _ _)

pub put-place-requires : goal.put-place-requires
put-place-requires c =
    let start = c in
    let a = c.args in
    let w = c.loop-n in
    omega (arith, w.invariant.place, w.invariant.long, c.requires, one-fits a.width w.n-index (length a.ns.now) (omega arith))

pub loop-n-preserved : goal.loop-n-preserved
loop-n-preserved c =
    let a = c.args in
    let w = c.loop-n in
    puts-number a.width w.n-index a.ns.now (omega arith) w.invariant c.put-place.ensures

pub returns : goal.returns
returns c =
    let a = c.args in
    let w = c.loop-n in
    let all : w.n-index ≡ length a.ns.now = omega arith in
    puts-same (ap (λ (k : ℕ). a.width * k) all)
    (ap (λ (l : List ℕ). field_bytes (map (of_width a.width) l)) (take_all w.n-index a.ns.now (omega arith))) w.invariant
