-- `results::put_read` meets its contract. Assumes nothing.
use Rattle.std.specs.Prelude.{◌≡◌, None, Some, Ok}
use mathlib.Core.Path.{ap, ◌∙◌}
use Rattle.model.specs.Names.{Read}
use Rattle.text.specs.Chains.{put_of, room_of, and_then}
use Rattle.answers.specs.Replies.{read_text}
use Rattle.answers.proofs.results.put_read.Goals as goal

pub returns-in-Some : goal.returns-in-Some
returns-in-Some c =
    let text = read_text c.args.report in
    let e : ◌≡◌ {A = Read} c.args.reply (Ok (Some _)) = c.in-Ok.is ∙ ap (λ v. Ok v) c.in-Some.is in
    put_of text e (and_then (and_then
    (λ _. c.put-named.ensures)
    (λ _. c.put_word-result.ensures))
    (λ _. c.put_report.ensures) (room_of text e c.requires))

pub returns-in-None : goal.returns-in-None
returns-in-None c =
    let text = read_text c.args.report in
    let e : ◌≡◌ {A = Read} c.args.reply (Ok None) = c.in-Ok.is ∙ ap (λ v. Ok v) c.in-None.is in
    put_of text e (and_then (λ _. c.put-result.ensures)
    (λ _. c.put_report-in-None.ensures) (room_of text e c.requires))
