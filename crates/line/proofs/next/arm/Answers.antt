-- `next::arm` meets its contract: each instant in turn. Assumes nothing.
use Rattle.model.specs.Arm.{arm_all}
use Rattle.line.proofs.next.arm.Goals as goal

pub returns : goal.returns
unfolding arm_all
returns c =
    rw (
      c.arm.ensures,
      c.arm-d.ensures,
      c.arm-c.ensures,
      c.arm-b.ensures,
      c.arm-a.ensures,
    )
