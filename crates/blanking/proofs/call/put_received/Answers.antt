-- `call::put_received` meets its contract. Assumes nothing.
use Rattle.blanking.specs.Puts.{puts-both}
use Rattle.blanking.proofs.call.put_received.Goals as goal

pub returns : goal.returns
returns c =
    puts-both _ _ _ _ _ _ _ _ c.put_two-dated.ensures
    c.put_blanked.ensures
