-- `store::clear_interrupts` meets its contract. Assumes nothing.
use Rattle.access.proofs.store.clear_interrupts.Goals as goal

pub returns : goal.returns
returns c = rw (c.none-notices.ensures, c.int_clr.ensures)
