-- `copy::copy_run` meets its contract: each byte stands behind those so far. Assumes nothing.
use mathlib.Core.Path.{◌≡◌, sym, ap, ◌∙◌}
use mathlib.Core.List.{List}
use Prim.Native.Nat.{ℕ, ◌+◌}
use native.Mathlib.Numerals.{add-one}
use native.Mathlib.Omega.{arith}
use lib.ListN.{drop, get_or, set, length-drop}
use lib.Seq.{paste, paste-zero, paste-suc, get_or-drop}
use Rattle.queue.proofs.copy.copy_run.Goals as goal

pub loop-i-init : goal.loop-i-init
loop-i-init c = let a = c.args in paste-zero a.dst.now a.at (drop a.from a.src.now)

-- a turn's store
pub loop-i-preserved : goal.loop-i-preserved
loop-i-preserved c =
    let a = c.args in
    let w = c.loop-i in
    let s : List ℕ = drop a.from a.src.now in
    ap (λ (l : List ℕ). set l (a.at + w.i) (get_or a.src.now (a.from + w.i) 0)) w.invariant
    ∙ ap (set (paste a.dst.now a.at s w.i) (a.at + w.i)) (sym (get_or-drop a.from a.src.now w.i 0))
    ∙ paste-suc a.dst.now a.at s w.i 0 (omega arith) (rw (length-drop a.from a.src.now) (omega arith))
    ∙ ap (paste a.dst.now a.at s) (sym (add-one w.i))

pub returns : goal.returns
returns c =
    let a = c.args in
    let w = c.loop-i in
    let e : w.i ≡ a.n = omega arith in
    w.invariant ∙ ap (paste a.dst.now a.at (drop a.from a.src.now)) e
