-- `call::put_two` meets its contract. Assumes nothing.
use Rattle.blanking.specs.Puts.{puts-both}
use Rattle.blanking.proofs.call.put_two.Goals as goal

pub returns : goal.returns
returns c =
    puts-both _ _ _ _ _ _ _ _ c.put_number-first.ensures
    c.put_number.ensures
