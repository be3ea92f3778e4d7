-- `call::put_row` meets its contract. Assumes nothing.
use Rattle.blanking.specs.Puts.{puts-both}
use Rattle.blanking.proofs.call.put_row.Goals as goal

pub returns : goal.returns
returns c =
    puts-both _ _ _ _ _ _ _ _ c.put_number-dated.ensures
    c.put_blanked.ensures
