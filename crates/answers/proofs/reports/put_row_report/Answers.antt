-- `reports::put_row_report` meets its contract: as `put_report` does. Assumes nothing.
use Rattle.text.specs.Chains.{room-first, room_after, and_then}
use Rattle.answers.specs.Reports.{passes_text, row_report_text}
use Rattle.answers.proofs.reports.put_row_report.Goals as goal

pub put_counts-counts-requires : goal.put_counts-counts-requires
unfolding row_report_text
put_counts-counts-requires c =
    room_after c.put_front-front.ensures (room-first (passes_text c.args.report.passes) c.requires)

pub returns : goal.returns
unfolding row_report_text
returns c =
    and_then (and_then c.put_front-front.ensures (λ _. c.put_counts-counts.ensures))
    c.put_passes.ensures c.requires
