-- `passes::settle_line` meets its contract: where nothing is due one pass is made, and else `passes` makes them. Assumes nothing.
use mathlib.Core.Path.{sym, ◌∙◌}
use Rattle.device.specs.Quiet.{quiet-ends}
use Rattle.device.proofs.passes.settle_line.Goals as goal

pub returns-then-quiet : goal.returns-then-quiet
returns-then-quiet c = let start = c in
    let o = c.args in
    let w = rw c.waiting-waits.ensures at c.quiet.ensures in
    quiet-ends _ o.date o.from o.host.now o.run_at.now o.run_len.now o.rx.now c.requires.0 (sym w ∙ c.if-quiet.true)

pub returns-else-quiet : goal.returns-else-quiet
returns-else-quiet c = rw c.settings-settings.ensures at c.take_all_on_the_line.ensures
