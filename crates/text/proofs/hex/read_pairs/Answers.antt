-- `hex::read_pairs` meets its contract: where the pairs end, what the loop has stored is all that they spell. Assumes nothing.
use Rattle.std.proofs.Common.{◌≡◌, ap, sym, ◌∙◌, ℕ, List, [], ◌++◌, ◌*◌, ◌/◌, length, take, drop, arith}
use Rattle.text.specs.Hexes.{spelled, pair-on, no-pair, pairs_end, front-on, back_on, stored-front, count-all, count-fault}
use Rattle.text.proofs.hex.read_pairs.Goals as goal

pub returns-in_default : goal.returns-in_default
returns-in_default c =
    let s = c.args.s.now in
    let w = c.loop-n in
    let rest = spelled (drop (2 * w.n) s) in
    let none : rest ≡ [] = no-pair s w.n 256 (omega arith) (sym c.in_default.ensures) (omega arith) in record {
      value = count-fault s w.to c.args.to.now w.n rest (omega arith) w.invariant.front none (λ e. omega arith);
      to_after = stored-front s w.to c.args.to.now w.n rest (omega arith) w.invariant.front none w.invariant.back;
    }

pub loop-n-preserved : goal.loop-n-preserved
loop-n-preserved c =
    let s = c.args.s.now in
    let w = c.loop-n in
    let b = c.in-Some.b in
    let on = pair-on s w.n b (omega arith) c.in-Some.ensures.0 c.in-Some.ensures.1 in record {
      front = front-on s w.to _ w.n b (omega arith) (w.invariant.front ∙ ap (λ (l : List ℕ). take w.n w.to ++ l) on);
      back = back_on w.to c.args.to.now w.n b w.invariant.back;
    }

pub returns-then-s-eq0 : goal.returns-then-s-eq0
returns-then-s-eq0 c =
    let s = c.args.s.now in
    let w = c.loop-n in
    let rest = spelled (drop (2 * w.n) s) in
    let none : rest ≡ [] = pairs_end s w.n (omega arith) in
    let e : length s / 2 ≡ w.n = omega arith in record {
      value = rw e (count-all s w.to c.args.to.now w.n rest (omega arith) w.invariant.front none (omega arith));
      to_after = stored-front s w.to c.args.to.now w.n rest (omega arith) w.invariant.front none w.invariant.back;
    }

pub returns-else-s-eq0 : goal.returns-else-s-eq0
returns-else-s-eq0 c =
    let s = c.args.s.now in
    let w = c.loop-n in
    let rest = spelled (drop (2 * w.n) s) in
    let none : rest ≡ [] = pairs_end s w.n (omega arith) in record {
      value = count-fault s w.to c.args.to.now w.n rest (omega arith) w.invariant.front none (λ e. omega arith);
      to_after = stored-front s w.to c.args.to.now w.n rest (omega arith) w.invariant.front none w.invariant.back;
    }
