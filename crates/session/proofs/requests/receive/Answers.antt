-- `requests::receive` meets its contract: the bytes of a hand-over are the first of the line's. Assumes nothing.
use mathlib.Core.Path.{ap, ◌∙◌}
use mathlib.Core.Option.{some}
use mathlib.Core.List.{List, []}
use Prim.Native.Nat.{ℕ}
use Rattle.model.specs.Call.{Dated, Call, Asked, does}
use Rattle.model.proofs.Laws.StepCases.{step-cases}
use Rattle.uart.specs.Whole.{meaning}
use Rattle.answers.specs.Replies.{done_text}
use Rattle.session.specs.Requests.{calls}
use Rattle.session.specs.Answers.{call-asked, gives, said, gives_as}
use Rattle.session.proofs.requests.receive.Goals as goal

pub returns : goal.returns
returns c =
    let a = c.args in
    let front = c.front in
    let done = c.receive in
    gives_as (ap (λ (l : List ℕ). calls (Asked.call (Call.at a.cycle (Dated.receive a.date l))) [] (some (meaning a.uart)))
    front.ensures)
    (gives done.ensures (Asked.call (Call.at a.cycle (Dated.receive a.date front.result.now))) does
    (call-asked _ _ ∙ (step-cases _).receive _ _ _) (said done.ensures done_text) c.after_done.ensures)
