-- `arm::arm` meets its contract. Assumes nothing.
use mathlib.Core.Path.{sym, subst, ap}
use lib.ListN.{get_or}
use Rattle.device.specs.Arms.{arms, Arms}
use Rattle.device.proofs.arm.arm.Goals as goal

pub returns : goal.returns
returns c = λ a eg ed k.
    subst (Arms c.args.core a) (sym c.with_wake_of.ensures)
    (arms c.args.core a c.next_wake-wake.result k
    (c.next_wake-wake.ensures a eg (ap (λ l. get_or l c.args.core.runs.start 0) ed) k.host k.runs))
