-- `spelling::put_decimal` meets its contract: the digits at the back of the text are put. Assumes nothing.
use Prim.Native.Nat.{◌-◌}
use native.Mathlib.Omega.{arith}
use lib.ListN.{drop, length-drop}
use lib.Seq.{take_all}
use Rattle.text.proofs.spelling.put_decimal.Goals as goal

pub returns : goal.returns
returns c =
    let d = c.spell_decimal-start in
    let l = d.new.to in
    rw (take_all (20 - d.result) (drop d.result l) (omega (arith, length-drop d.result l)), d.ensures.1) at
    c.put.ensures
