-- `store::store` meets its contract. Assumes nothing.
use Rattle.access.proofs.store.store.Goals as goal

pub returns : goal.returns
returns c =
    rw (
      c.stored_notices-notices.ensures,
      c.accepted-reply.ensures,
      c.write-put.ensures.0,
      c.write-put.ensures.1,
    )
