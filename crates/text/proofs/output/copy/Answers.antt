-- `output::copy` meets its contract: each byte stands behind those so far. Assumes nothing.
use mathlib.Core.Path.{◌≡◌, ap, sym, ◌∙◌}
use mathlib.Core.List.{List, ◌++◌}
use Prim.Native.Nat.{ℕ, ◌+◌}
use native.Mathlib.Numerals.{add-one}
use native.Mathlib.Omega.{arith}
use lib.ListN.{length, take, drop, get_or, set}
use lib.Seq.{paste, paste-zero, paste-suc, take-length}
use Rattle.text.proofs.output.copy.Goals as goal

pub loop-i-init : goal.loop-i-init
loop-i-init c = let a = c.args in paste-zero a.out.now a.at a.s.now

pub loop-i-preserved : goal.loop-i-preserved
loop-i-preserved c =
    let a = c.args in
    let w = c.loop-i in
    ap (λ (l : List ℕ). set l (a.at + w.i) (get_or a.s.now w.i 0)) w.invariant
    ∙ paste-suc a.out.now a.at a.s.now w.i 0 (omega arith) (omega arith)
    ∙ ap (paste a.out.now a.at a.s.now) (sym (add-one w.i))

pub returns : goal.returns
returns c =
    let a = c.args in
    let w = c.loop-i in
    let e : w.i ≡ length a.s.now = omega arith in
    w.invariant
    ∙ ap (paste a.out.now a.at a.s.now) e
    ∙ ap (λ (l : List ℕ). take a.at a.out.now ++ l ++ drop (a.at + length a.s.now) a.out.now) (take-length a.s.now)
