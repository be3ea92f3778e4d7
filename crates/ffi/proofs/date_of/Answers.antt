-- `date_of` meets its contract. Assumes nothing.
use Rattle.model.specs.Numbers.{choose}
use Rattle.ffi.specs.Plain.{date_of}
use Rattle.ffi.proofs.date_of.Goals as goal

pub returns-then-date : goal.returns-then-date
unfolding date_of choose
returns-then-date c = rw c.if-date.true

pub returns-else-date : goal.returns-else-date
unfolding date_of choose
returns-else-date c = rw c.if-date.false
