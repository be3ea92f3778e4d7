-- `lines::wrong` meets its contract. Assumes nothing.
use mathlib.Core.Path.{refl}
use native.Mathlib.Omega.{arith}
use Rattle.answers.specs.Lengths.{fault-short}
use Rattle.session.specs.Answers.{moved}
use Rattle.session.proofs.lines.wrong.Goals as goal

pub put_fault-at-requires : goal.put_fault-at-requires
put_fault-at-requires c =
    let a = c.args in
    record { fits = omega (arith, c.requires.wide, fault-short a.s.now a.fault) }

pub returns : goal.returns
returns c =
    let far = c in
    let a = c.args in
    moved c.put_fault-at.ensures _ a.session refl refl c.requires.good c.with_output.ensures
