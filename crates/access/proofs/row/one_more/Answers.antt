-- `row::one_more` meets its contract. Assumes nothing.
use Rattle.access.proofs.row.one_more.Goals as goal

pub returns : goal.returns
returns c =
    rw (
      c.count_if-lost.ensures,
      c.goes_on-on.ensures,
      c.full.ensures,
    )
