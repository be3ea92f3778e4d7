-- `lines::piece_at` meets its contract. Assumes nothing.
use mathlib.Core.Path.{◌≡◌}
use borrow.Author.Tests.{lt-ltb, le-ltb}
use Rattle.text.specs.Lines.{line_end}
use Rattle.text.proofs.lines.piece_at.Goals as goal

pub returns-then-end-s : goal.returns-then-end-s
returns-then-end-s c =
    let a = c.args in
    let e : c.seek-end.result ≡ line_end a.s.now a.at = c.seek-end.ensures in
    rw (← e, lt-ltb _ _ c.if-end-s.true)

pub returns-else-end-s : goal.returns-else-end-s
returns-else-end-s c =
    let a = c.args in
    let e : c.seek-end.result ≡ line_end a.s.now a.at = c.seek-end.ensures in
    rw (← e, le-ltb _ _ c.if-end-s.false)
