-- `idle::time_out` meets its contract, by the two tests that let it show. Assumes nothing.
use Rattle.model.specs.Numbers.{choose}
use Rattle.model.specs.Line.{raise_if, time_out}
use Rattle.line.proofs.idle.time_out.Goals as goal

pub returns-then-settings-2 : goal.returns-then-settings-2
unfolding time_out raise_if choose
returns-then-settings-2 c =
    rw (
      c.if-settings.true,
      c.if-settings-2.true,
      c.raise_if.ensures,
      c.note_source-noted.ensures,
      c.with_idle_since-closed.ensures,
    )

pub returns-else-settings-2 : goal.returns-else-settings-2
unfolding time_out choose
returns-else-settings-2 c = rw (c.if-settings.true, c.if-settings-2.false) c.with_idle_since-closed.ensures

pub returns-else-settings : goal.returns-else-settings
unfolding time_out choose
returns-else-settings c = rw c.if-settings.false c.with_idle_since-closed.ensures
