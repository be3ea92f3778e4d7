-- `line::one_more` meets its contract. Assumes nothing.
use borrow.Author.Tests.{lt-ltb, le-ltb}
use Rattle.blanking.specs.Lines.{one_more}
use Rattle.blanking.proofs.line.one_more.Goals as goal

pub returns-then-count-lt18446744073709551615 : goal.returns-then-count-lt18446744073709551615
unfolding one_more
returns-then-count-lt18446744073709551615 c = rw (lt-ltb _ _ c.if-count-lt18446744073709551615.true)

pub returns-else-count-lt18446744073709551615 : goal.returns-else-count-lt18446744073709551615
unfolding one_more
returns-else-count-lt18446744073709551615 c = rw (le-ltb _ _ c.if-count-lt18446744073709551615.false)
