-- `answers::row_answer` meets its contract. Assumes nothing.
use Rattle.ffi.proofs.answers.row_answer.Goals as goal

pub returns : goal.returns
returns c = rw (c.plain_report-report.ensures, c.plain_core-core.ensures, c.row_reply-plain_row.ensures)
