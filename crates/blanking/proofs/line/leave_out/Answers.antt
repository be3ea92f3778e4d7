-- `line::leave_out` meets its contract. Assumes nothing.
use Rattle.blanking.specs.Lines.{left_out_text}
use Rattle.blanking.specs.LineLaws.{left-out-room, blanks-left-out}
use Rattle.blanking.specs.Puts.{puts-both}
use Rattle.blanking.proofs.line.leave_out.Goals as goal

pub returns : goal.returns
unfolding left_out_text
returns c =
    blanks-left-out _ _ _ _ _
    (puts-both _ _ _ _ _ _ _ _
    (puts-both _ _ _ _ _ _ _ _
    (λ _. c.put-named.ensures)
    (λ _. c.put_decimal-numbered.ensures))
    (λ _. c.put-end.ensures)
    (left-out-room c.args.out.now c.args.at c.args.trace.number c.requires))
    (rw c.one_more.ensures)
