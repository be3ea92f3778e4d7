-- `pass::start` meets its contract, by the tests on the way. Assumes nothing.
use borrow.Author.Tests.{lt-ltb, le-ltb}
use Rattle.model.specs.Numbers.{choose}
use Rattle.line.specs.Begins.{started}
use Rattle.line.proofs.pass.start.Goals as goal

pub returns-then-date-at : goal.returns-then-date-at
unfolding started choose
returns-then-date-at c = rw (lt-ltb _ _ c.if-date-at.true) c.keep.ensures

pub returns-then-timeout_due : goal.returns-then-timeout_due
unfolding started choose
returns-then-timeout_due c =
    rw (le-ltb _ _ c.if-date-at.false, ← c.timeout_due.ensures, c.if-timeout_due.true)
    c.keep-then-timeout_due.ensures

pub returns : goal.returns
unfolding started choose
returns c =
    rw (
      le-ltb _ _ c.if-date-at.false,
      ← c.timeout_due.ensures,
      c.if-timeout_due.false,
      ← c.start-after.ensures,
      ← c.frame-f.ensures,
    )
