-- `refusals::runs_full` meets its contract. Assumes nothing.
use Rattle.replies.specs.Room.{no_bytes, few-runs, all_runs}
use Rattle.replies.proofs.refusals.runs_full.Goals as goal

pub returns-then-new-eq0 : goal.returns-then-new-eq0
returns-then-new-eq0 c = no_bytes _ _ _ _ c.if-new-eq0.true

pub returns-then-runs-lt-RUNS_LIMIT : goal.returns-then-runs-lt-RUNS_LIMIT
returns-then-runs-lt-RUNS_LIMIT c = few-runs _ _ _ _ c.if-runs-lt-RUNS_LIMIT.true

pub returns : goal.returns
returns c = all_runs _ _ _ _ c.if-new-eq0.false c.if-runs-lt-RUNS_LIMIT.false
