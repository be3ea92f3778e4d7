-- `plain_core` meets its contract. Assumes nothing.
use Rattle.ffi.specs.Plain.{plain_core}
use Rattle.ffi.proofs.plain_core.Goals as goal

pub returns : goal.returns
unfolding plain_core
returns c =
    rw (
      c.plain_date-3.ensures,
      c.plain_date-2.ensures,
      c.plain_date.ensures,
      c.plain_source.ensures,
      c.on_the_line-on.ensures,
    )
