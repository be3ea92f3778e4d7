-- `call::put_write` meets its contract. Assumes nothing.
use Rattle.blanking.specs.EntryLaws.{three-same}
use Rattle.blanking.specs.Puts.{puts-same, puts-both}
use Rattle.blanking.proofs.call.put_write.Goals as goal

pub returns : goal.returns
returns c =
    let w = c.blanked_write-blank.ensures in
    puts-same _ _ _ _ _ _ (three-same _ _ _ _ _ _ w.0 w.1 w.2)
    (puts-both _ _ _ _ _ _ _ _ c.put_two-dated.ensures
    c.put_number.ensures)
