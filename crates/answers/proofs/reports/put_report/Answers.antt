-- `reports::put_report` meets its contract: what stands before the notices, those, and what stands after them. Assumes nothing.
use Rattle.text.specs.Chains.{room-first, room_after, and_then}
use Rattle.answers.specs.Reports.{passes_text, report_text}
use Rattle.answers.proofs.reports.put_report.Goals as goal

pub put_notices-notices-requires : goal.put_notices-notices-requires
unfolding report_text
put_notices-notices-requires c =
    room_after c.put_front-front.ensures (room-first (passes_text c.args.report.passes) c.requires)

pub returns : goal.returns
unfolding report_text
returns c =
    and_then (and_then c.put_front-front.ensures (λ _. c.put_notices-notices.ensures))
    c.put_passes.ensures c.requires
