-- `results::plain_report` meets its contract. Assumes nothing.
use Rattle.ffi.specs.Replies.{plain_report}
use Rattle.ffi.proofs.results.plain_report.Goals as goal

pub returns : goal.returns
unfolding plain_report
returns c = rw (c.plain_date.ensures, c.plain_notices-notices.ensures)
