-- `output::spell_pairs` meets its contract: each byte's two digits stand behind those so far. Assumes nothing.
use Rattle.std.proofs.Common.{◌≡◌, ap, ◌∙◌, ℕ, List, ◌++◌, ◌+◌, ◌*◌, length, take, drop, arith}
use lib.Seq.{paste, take-length}
use Rattle.text.specs.HexText.{hex_pairs, pairs-length, pairs-on}
use Rattle.text.proofs.output.spell_pairs.Goals as goal

pub loop-i-preserved : goal.loop-i-preserved
loop-i-preserved c =
    let a = c.args in
    let w = c.loop-i in
    pairs-on a.s.now a.out.now w.out a.at w.i _ _ (omega arith) (omega arith) w.invariant c.high_letter.ensures c.low_letter.ensures

pub returns : goal.returns
returns c =
    let a = c.args in
    let w = c.loop-i in
    let p = hex_pairs a.s.now in
    let e : 2 * w.i ≡ length p = omega (arith, pairs-length a.s.now) in
    w.invariant
    ∙ ap (paste a.out.now a.at p) e
    ∙ ap (λ (l : List ℕ). take a.at a.out.now ++ l ++ drop (a.at + length p) a.out.now) (take-length p)
