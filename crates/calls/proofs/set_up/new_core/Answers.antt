-- `set_up::new_core` meets its contract. Assumes nothing.
use Rattle.calls.proofs.set_up.new_core.Goals as goal

pub returns : goal.returns
returns c = rw (c.new-none.ensures, c.new_control-control.ensures, c.register_map-map.ensures)
