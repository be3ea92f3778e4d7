-- `frame::fate` meets its contract, by the tests on the way. Assumes nothing.
use borrow.Author.Tests.{lt-ltb, le-ltb}
use Rattle.model.specs.Numbers.{choose}
use Rattle.model.specs.Line.{fate}
use Rattle.line.proofs.frame.fate.Goals as goal

pub returns-then-settings-2 : goal.returns-then-settings-2
unfolding fate choose
returns-then-settings-2 c = rw (c.if-f.true, c.if-settings.true, c.if-settings-2.true)

pub returns-then-held-lt-FIFO_BYTES : goal.returns-then-held-lt-FIFO_BYTES
unfolding fate choose
returns-then-held-lt-FIFO_BYTES c = rw (c.if-f.true, c.if-settings.true, c.if-settings-2.false, lt-ltb _ 128 c.if-held-lt-FIFO_BYTES.true)

pub returns-then-settings : goal.returns-then-settings
unfolding fate choose
returns-then-settings c = rw (c.if-f.true, c.if-settings.true, c.if-settings-2.false, le-ltb _ 128 c.if-held-lt-FIFO_BYTES.false)

pub returns-then-f : goal.returns-then-f
unfolding fate choose
returns-then-f c = rw (c.if-f.true, c.if-settings.false)

pub returns : goal.returns
unfolding fate choose
returns c = rw c.if-f.false
