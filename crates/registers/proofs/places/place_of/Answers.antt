-- `places::place_of` meets its contract: the offset is looked up among the places not yet passed. Assumes nothing.
use mathlib.Core.Path.{refl, sym, ◌∙◌}
use native.Mathlib.Omega.{arith}
use Rattle.model.specs.Map.{registers, register_of}
use Rattle.registers.specs.Places.{register_at, nth-register, register-found, register-passed, register-end}
use Rattle.registers.proofs.places.place_of.Goals as goal

pub loop-at-init : goal.loop-at-init
unfolding register_of
loop-at-init c = refl

pub returns-then-known-offset : goal.returns-then-known-offset
returns-then-known-offset c =
    nth-register c.loop-at.at _ (omega arith)
    ∙ register-found c.loop-at.at c.args.offset _ registers (omega arith)
    (omega arith) c.if-known-offset.true
    ∙ c.loop-at.invariant

pub loop-at-preserved : goal.loop-at-preserved
loop-at-preserved c =
    sym (register-passed c.loop-at.at c.args.offset _ registers (omega arith) (omega arith)
    c.if-known-offset.false) ∙ c.loop-at.invariant

pub returns : goal.returns
unfolding register_at
returns c = register-end c.loop-at.at _ _ registers (omega arith) ∙ c.loop-at.invariant
