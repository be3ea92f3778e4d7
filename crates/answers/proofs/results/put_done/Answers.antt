-- `results::put_done` meets its contract. Assumes nothing.
use Rattle.text.specs.Chains.{put_of, room_of, and_then}
use Rattle.answers.specs.Replies.{done_text}
use Rattle.answers.proofs.results.put_done.Goals as goal

pub returns-in-Ok : goal.returns-in-Ok
returns-in-Ok c =
    let text = done_text c.args.report in
    let e = c.in-Ok.is in
    put_of text e (and_then (λ _. c.put-result.ensures)
    (λ _. c.put_report.ensures) (room_of text e c.requires))
