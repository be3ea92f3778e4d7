-- `departures::gone` meets its contract: what it has counted and what the definition counts in the rest make up what the
-- definition counts in all. Assumes nothing.
use native.Mathlib.Omega.{arith}
use Rattle.queue.specs.Laws.{pop-held}
use Rattle.device.specs.Leaves.{gone-none, gone-later, gone-first}
use Rattle.device.proofs.departures.gone.Goals as goal

pub loop-rest-init : goal.loop-rest-init
loop-rest-init c = (c.requires.0, λ bytes. omega arith, omega arith)

pub overflow_add-n : goal.overflow_add-n
overflow_add-n c =
    omega (arith, c.requires.0.few, c.loop-rest.invariant.2)

pub loop-rest-smaller : goal.loop-rest-smaller
loop-rest-smaller c = rw c.popped-rest.ensures (omega (arith, c.loop-rest-test.true))

pub loop-rest-preserved : goal.loop-rest-preserved
loop-rest-preserved c = let o = c.args in
    let l = c.loop-rest in
    let pos = c.loop-rest-test.true in
    let e = c.popped-rest.ensures in (
      rw e (pop-held 129 l.rest l.invariant.0),
      λ bytes. rw e (omega (
        arith,
        gone-first o.date o.gone_at.now bytes l.rest l.invariant.0 pos c.if-date-gone_at.false,
        l.invariant.1 bytes,
      )),
      rw e (omega (arith, l.invariant.2)),
    )

pub returns-after-loop-rest : goal.returns-after-loop-rest
returns-after-loop-rest c = let o = c.args in
    let l = c.loop-rest in (
      λ bytes. omega (arith, gone-none o.date o.gone_at.now bytes l.rest c.loop-rest-test.false, l.invariant.1 bytes),
      omega (arith, l.invariant.2),
    )

pub returns-then-date-gone_at : goal.returns-then-date-gone_at
returns-then-date-gone_at c = let o = c.args in
    let l = c.loop-rest in (
      λ bytes. omega (
        arith,
        gone-later o.date o.gone_at.now bytes l.rest l.invariant.0 c.loop-rest-test.true
            c.if-date-gone_at.true,
        l.invariant.1 bytes,
      ),
      omega (arith, l.invariant.2),
    )
