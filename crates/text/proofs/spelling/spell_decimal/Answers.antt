-- `spelling::spell_decimal` meets its contract. The loop's invariant: the digits of what is left, and those that stand at the back, are
-- the digits of n. Assumes nothing.
use mathlib.Core.Path.{◌≡◌, ap, sym, ◌∙◌}
use mathlib.Core.List.{List, [], ◌++◌, append-nil}
use Prim.Native.Nat.{ℕ, suc, ◌-◌}
use native.Mathlib.Omega.{arith}
use lib.ListN.{drop, length-set, drop_of_length-le}
use Rattle.text.specs.Decimal.{decimal, tenth-low, more_left, spelled-on, spelled-end}
use Rattle.text.proofs.spelling.spell_decimal.Goals as goal

pub loop-rest-init : goal.loop-rest-init
loop-rest-init c =
    let a = c.args in
    let none : drop 20 a.to.now ≡ [] = drop_of_length-le a.to.now {i = 20} (omega arith) in
    (omega arith, omega arith, omega arith, sym (append-nil (decimal a.n)) ∙ ap (λ (l : List ℕ). decimal a.n ++ l) (sym none))

pub overflow_sub-start : goal.overflow_sub-start
overflow_sub-start c = let w = c.loop-rest in omega (arith, more_left w.start w.rest c.loop-rest-test.true w.invariant.2)

pub loop-rest-preserved : goal.loop-rest-preserved
loop-rest-preserved c =
    let w = c.loop-rest in
    let pos = more_left w.start w.rest c.loop-rest-test.true w.invariant.2 in
    let s : suc (w.start - 1) ≡ w.start = omega arith in (
      omega arith,
      simp length-set w.invariant.1,
      rw s (tenth-low w.start w.rest w.invariant.2),
      w.invariant.3 ∙ spelled-on w.to w.start w.rest c.last_letter.result (omega arith) c.last_letter.ensures
          c.loop-rest-test.true pos,
    )

pub shape_of-to : goal.shape_of-to
shape_of-to c = simp length-set (omega arith)

pub returns : goal.returns
returns c =
    let w = c.loop-rest in (
      omega arith,
      spelled-end w.to w.start w.rest c.last_letter-2.result (omega arith) c.last_letter-2.ensures
          c.loop-rest-test.false ∙ sym w.invariant.3,
    )
