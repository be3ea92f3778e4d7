-- `reports::put_level` meets its contract. Assumes nothing.
use Rattle.text.specs.Chains.{put_of}
use Rattle.answers.specs.Reports.{level_text}
use Rattle.answers.proofs.reports.put_level.Goals as goal

pub returns-then-level : goal.returns-then-level
returns-then-level c = put_of level_text c.if-level.true c.put.ensures

pub returns-else-level : goal.returns-else-level
returns-else-level c = put_of level_text c.if-level.false c.put-else-level.ensures
