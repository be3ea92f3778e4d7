-- `faults::printable` meets its contract. Assumes nothing.
use borrow.Author.Tests.{lt-ltb, le-ltb}
use Rattle.answers.specs.Faults.{shown}
use Rattle.answers.proofs.faults.printable.Goals as goal

pub returns-then-byte-lt33 : goal.returns-then-byte-lt33
unfolding shown
returns-then-byte-lt33 c = simp (lt-ltb _ _ c.if-byte-lt33.true)

pub returns-then-byte-gt126 : goal.returns-then-byte-gt126
unfolding shown
returns-then-byte-gt126 c = simp (le-ltb _ _ c.if-byte-lt33.false, lt-ltb _ _ c.if-byte-gt126.true)

pub returns : goal.returns
unfolding shown
returns c = simp (le-ltb _ _ c.if-byte-lt33.false, le-ltb _ _ c.if-byte-gt126.false)
