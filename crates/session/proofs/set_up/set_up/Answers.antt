-- `set_up::set_up` meets its contract: the new UART is in use only where set-up was not refused. Assumes nothing.
use mathlib.Core.Path.{ap₂}
use mathlib.Core.List.{List}
use Prim.Native.Nat.{ℕ}
use native.Mathlib.Omega.{arith}
use Rattle.answers.specs.Lengths.{set-up-short}
use Rattle.session.specs.Requests.{sets_up}
use Rattle.session.specs.Sessions.{stands_for}
use Rattle.session.specs.Answers.{gives_as, set-up-ready, set-up-refused}
use Rattle.session.proofs.set_up.set_up.Goals as goal

pub put_set_up-at-requires : goal.put_set_up-at-requires
put_set_up-at-requires c =
    record { fits = omega (arith, c.requires.wide, set-up-short c.new-new.result.reply) }

pub returns-in-Ok : goal.returns-in-Ok
returns-in-Ok c =
    let far = c in
    let d = stands_for c.args.session in
    gives_as (ap₂ (λ (o : List ℕ) (w : List ℕ). sets_up o w d) c.sixteen.ensures c.sixteen-2.ensures)
    (set-up-ready c.new-new.ensures
    c.put_set_up-at.ensures d c.in-Ok.is
    c.in_use.ensures)

pub returns-in-Err : goal.returns-in-Err
returns-in-Err c =
    let far = c in
    let d = stands_for c.args.session in
    gives_as (ap₂ (λ (o : List ℕ) (w : List ℕ). sets_up o w d) c.sixteen.ensures c.sixteen-2.ensures)
    (set-up-refused c.new-new.ensures
    c.put_set_up-at.ensures c.args.session _
    c.in-Err.is c.requires.good
    c.with_output.ensures)
