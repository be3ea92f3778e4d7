-- `results::put_write` meets its contract. Assumes nothing.
use Rattle.std.specs.Prelude.{◌≡◌, true, false, Ok}
use mathlib.Core.Path.{ap, ◌∙◌}
use Rattle.model.specs.Names.{Write}
use Rattle.text.specs.Chains.{put_of, room_of, and_then}
use Rattle.answers.specs.Replies.{write_text}
use Rattle.answers.proofs.results.put_write.Goals as goal

pub returns-then-accepted : goal.returns-then-accepted
returns-then-accepted c =
    let text = write_text c.args.report in
    let e : ◌≡◌ {A = Write} c.args.reply (Ok true) = c.in-Ok.is ∙ ap (λ b. Ok b) c.if-accepted.true in
    put_of text e (and_then (λ _. c.put-result.ensures)
    (λ _. c.put_report.ensures) (room_of text e c.requires))

pub returns-else-accepted : goal.returns-else-accepted
returns-else-accepted c =
    let text = write_text c.args.report in
    let e : ◌≡◌ {A = Write} c.args.reply (Ok false) = c.in-Ok.is ∙ ap (λ b. Ok b) c.if-accepted.false in
    put_of text e (and_then (λ _. c.put-result-else-accepted.ensures)
    (λ _. c.put_report-else-accepted.ensures) (room_of text e c.requires))
