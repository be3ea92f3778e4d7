-- `plain_date` meets its contract. Assumes nothing.
use Rattle.ffi.specs.Plain.{plain_date}
use Rattle.ffi.proofs.plain_date.Goals as goal

pub returns-in-None : goal.returns-in-None
unfolding plain_date
returns-in-None c = cc

pub returns-in-Some : goal.returns-in-Some
unfolding plain_date
returns-in-Some c = cc
