-- `take::lend_written` meets its contract. Assumes nothing.
use Rattle.session.specs.Taken.{written-gives}
use Rattle.session.proofs.take.lend_written.Goals as goal

pub returns : goal.returns
returns c =
    let far = c in
    written-gives c.requires.lent_value
    c.take_written-after.ensures c.after_written.ensures
