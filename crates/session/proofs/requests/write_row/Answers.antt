-- `requests::write_row` meets its contract: the bytes of a row are the first of the line's. Assumes nothing.
use mathlib.Core.Path.{ap}
use mathlib.Core.Option.{some}
use mathlib.Core.List.{List, []}
use Prim.Native.Nat.{ℕ}
use Rattle.model.specs.Call.{Asked, rows}
use Rattle.uart.specs.Whole.{meaning}
use Rattle.answers.specs.Replies.{row_text}
use Rattle.session.specs.Requests.{calls}
use Rattle.session.specs.Answers.{row-asked, gives, said, gives_as}
use Rattle.session.proofs.requests.write_row.Goals as goal

pub returns : goal.returns
returns c =
    let a = c.args in
    let front = c.front in
    let row = c.write_row in
    gives_as (ap (λ (l : List ℕ). calls (Asked.row a.cycle l) [] (some (meaning a.uart))) front.ensures)
    (gives row.ensures (Asked.row a.cycle front.result.now) rows (row-asked _ _ _) (said row.ensures row_text)
    c.after_row.ensures)
