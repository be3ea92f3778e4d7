-- `results::put_taken` meets its contract: the hand-out, and then the report. Assumes nothing.
use Rattle.text.specs.Chains.{room_after, and_then}
use Rattle.answers.proofs.results.put_taken.Goals as goal

pub put_report-requires : goal.put_report-requires
put_report-requires c =
    room_after c.put_hand_out-handed.ensures c.requires

pub returns : goal.returns
returns c =
    and_then c.put_hand_out-handed.ensures (λ _. c.put_report.ensures)
    c.requires
