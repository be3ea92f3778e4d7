-- `line::counted` meets its contract. Assumes nothing.
use Rattle.blanking.proofs.line.counted.Goals as goal

pub returns : goal.returns
returns c = rw c.one_more.ensures
