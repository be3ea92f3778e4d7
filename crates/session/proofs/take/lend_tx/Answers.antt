-- `take::lend_tx` meets its contract. Assumes nothing.
use Rattle.session.specs.Taken.{tx-gives}
use Rattle.session.proofs.take.lend_tx.Goals as goal

pub returns : goal.returns
returns c =
    let far = c in
    tx-gives c.requires.lent_value c.args.cycle
    c.take_tx-after.ensures c.after_take.ensures
