-- `put::put` meets its contract. The loop's invariant: what is left to put makes of the buffer what all of it makes of the buffer as it
-- was. Assumes nothing.
use mathlib.Core.Path.{◌≡◌, refl, sym, ap, ap₂, ◌∙◌}
use mathlib.Core.List.{List}
use Prim.Native.Nat.{ℕ, suc, ◌+◌, ◌-◌, ◌/◌, ◌%◌}
use lib.ListN.{set, length-set}
use Rattle.form.specs.Cells.{low_first}
use Rattle.form.proofs.Laws.Numbers.{length-low}
use Rattle.park.specs.Puts.{wrote}
use native.Mathlib.Omega.{arith}
use Rattle.park.proofs.put.put.Goals as goal

pub loop-i-init : goal.loop-i-init
loop-i-init c =
    let a = c.args in
    let e : a.at + 0 ≡ a.at = omega arith in
    let f : a.width - 0 ≡ a.width = omega arith in
    (refl, ap₂ (λ (p k : ℕ). wrote a.out.now p (low_first k a.n)) e f)

pub loop-i-preserved : goal.loop-i-preserved
unfolding wrote low_first
loop-i-preserved c =
    let a = c.args in
    let w = c.loop-i in
    let t : List ℕ = set w.out (a.at + w.i) (w.rest % 256) in
    let e : a.at + (w.i + 1) ≡ suc (a.at + w.i) = omega arith in
    let f : a.width - w.i ≡ suc (a.width - (w.i + 1)) = omega arith in (
      length-set w.out (a.at + w.i) (w.rest % 256) ∙ w.invariant.0,
      ap (λ (p : ℕ). wrote t p (low_first (a.width - (w.i + 1)) (w.rest / 256))) e
          ∙ sym (ap (λ (k : ℕ). wrote w.out (a.at + w.i) (low_first k w.rest)) f) ∙ w.invariant.1,
    )

pub returns : goal.returns
unfolding wrote low_first
returns c =
    let a = c.args in
    let w = c.loop-i in
    let f : a.width - w.i ≡ 0 = omega arith in
    record {
      many = length-low a.width a.n;
      place = refl;
      long = w.invariant.0;
      bytes = ap (λ (k : ℕ). wrote w.out (a.at + w.i) (low_first k w.rest)) (sym f) ∙ w.invariant.1;
    }
