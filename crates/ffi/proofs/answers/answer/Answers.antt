-- `answers::answer` meets its contract. Assumes nothing.
use Rattle.ffi.proofs.answers.answer.Goals as goal

pub returns : goal.returns
returns c = rw (c.plain_report-plain_report.ensures, c.plain_core-plain_core.ensures)
