-- `receive::host_date` meets its contract. Assumes nothing.
use Rattle.model.specs.Calls.{host_date}
use Rattle.host.proofs.receive.host_date.Goals as goal

pub returns : goal.returns
unfolding host_date
returns c = rw (c.subcycles.ensures, c.later.ensures)
