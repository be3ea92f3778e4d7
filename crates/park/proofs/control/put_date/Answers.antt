-- `control::put_date` meets its contract: a mark, and then the date. Assumes nothing.
use mathlib.Core.Path.{refl}
use Rattle.park.specs.Puts.{puts-both, puts-same}
use Rattle.park.specs.Fields.{puts-value, date-bytes}
use Rattle.park.proofs.control.put_date.Goals as goal

pub returns : goal.returns
returns c =
    let second = c in
    let first = c in
    puts-same refl (date-bytes c.args.date)
    (puts-both (puts-value 1 c.date_mark.ensures c.put-marked.ensures)
    (puts-value 8 c.instant.ensures c.put.ensures))
