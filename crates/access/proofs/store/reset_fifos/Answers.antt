-- `store::reset_fifos` meets its contract. Assumes nothing.
use Rattle.access.specs.Writes.{resets}
use Rattle.access.proofs.store.reset_fifos.Goals as goal

pub returns : goal.returns
returns c =
    let o = c.args in
    resets o.conf0 o.core c.cut_if-flight.ensures c.txfifo_rst-tx_reset.ensures c.empty_if-rx.ensures
    c.rxfifo_rst-rx_reset.ensures
