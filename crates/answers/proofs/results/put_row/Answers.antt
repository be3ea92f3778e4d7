-- `results::put_row` meets its contract. Assumes nothing.
use Rattle.text.specs.Chains.{put_of, room_of, room_after, and_then}
use Rattle.answers.specs.Replies.{row_text}
use Rattle.answers.proofs.results.put_row.Goals as goal

pub put_refusal-requires : goal.put_refusal-requires
put_refusal-requires c =
    room_of (row_text c.args.report) c.in-Err.is
    c.requires

pub put_row_report-requires : goal.put_row_report-requires
put_row_report-requires c =
    let text = row_text c.args.report in
    room_after (and_then (λ _. c.put-named.ensures)
    (λ _. c.put_decimal-result.ensures)) (room_of text c.in-Ok.is c.requires)

pub returns-in-Err : goal.returns-in-Err
returns-in-Err c =
    put_of (row_text c.args.report) c.in-Err.is c.put_refusal.ensures

pub returns-in-Ok : goal.returns-in-Ok
returns-in-Ok c =
    let text = row_text c.args.report in
    let e = c.in-Ok.is in
    put_of text e (and_then (and_then (λ _. c.put-named.ensures)
    (λ _. c.put_decimal-result.ensures))
    (λ _. c.put_row_report.ensures) (room_of text e c.requires))
