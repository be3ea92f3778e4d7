-- `faults::put_start` meets its contract. The loop's invariant: the bytes from the start up to the i-th are shown. Assumes nothing.
use mathlib.Core.Path.{sym}
use mathlib.Core.List.{List, [], ◌∷◌}
use Prim.Native.Nat.{ℕ}
use native.Mathlib.Omega.{arith}
use Rattle.text.specs.Chains.{put_of, puts_of, and_then}
use Rattle.answers.specs.Faults.{shown-on, shown-end, shown-last, shown-cut}
use borrow.Author.Rules.{rules}
use Rattle.answers.proofs.faults.put_start.Goals as goal

pub returns-then-i-s : goal.returns-then-i-s
returns-then-i-s c =
    let a = c.args in
    let w = c.loop-i in
    puts_of (λ (l : List ℕ). l)
    (sym (shown-last a.s.now a.start w.i w.invariant.0 a.end w.invariant.1 w.invariant.2 c.if-i-s.true)) w.invariant.4

pub returns-then-i-start-ge-SHOWN : goal.returns-then-i-start-ge-SHOWN
returns-then-i-start-ge-SHOWN c =
    let a = c.args in
    let w = c.loop-i in
    puts_of (λ (l : List ℕ). l)
    (sym (shown-cut a.s.now a.start w.i w.invariant.0 a.end w.invariant.1 w.invariant.2 (omega arith) (omega arith) (omega arith)))
    (and_then w.invariant.4 (λ _. c.put.ensures))

pub loop-i-preserved : goal.loop-i-preserved
loop-i-preserved c =
    let a = c.args in
    let w = c.loop-i in (
      search rules,
      omega arith,
      omega arith,
      search rules,
      puts_of (λ (l : List ℕ). l) (sym (shown-on a.s.now a.start w.i w.invariant.0 (omega arith)))
          (and_then w.invariant.4 (λ _. put_of (λ (b : ℕ). b ∷ []) (sym c.printable.ensures)
          c.put-place.ensures)),
    )

pub returns : goal.returns
returns c =
    let a = c.args in
    let w = c.loop-i in
    puts_of (λ (l : List ℕ). l)
    (sym (shown-end a.s.now a.start w.i w.invariant.0 a.end w.invariant.1 w.invariant.2 (omega arith))) w.invariant.4
