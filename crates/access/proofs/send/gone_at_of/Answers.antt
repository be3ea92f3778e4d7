-- `send::gone_at_of` meets its contract. Assumes nothing.
use Rattle.access.proofs.send.gone_at_of.Goals as goal

pub returns : goal.returns
returns c =
    λ bytes. rw (
      c.gone_after.ensures bytes,
      c.subcycles.ensures,
      c.byte_time-takes.ensures,
    )
