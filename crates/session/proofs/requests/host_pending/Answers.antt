-- `requests::host_pending` meets its contract. Assumes nothing.
use native.Mathlib.Omega.{arith}
use Rattle.answers.specs.Lengths.{host-pending-short}
use Rattle.session.specs.Answers.{pending-gives}
use Rattle.session.proofs.requests.host_pending.Goals as goal

pub put_host_pending-next-requires : goal.put_host_pending-next-requires
put_host_pending-next-requires c =
    record { fits = omega (arith, c.requires.wide, host-pending-short c.host_pending-answer.result.count) }

pub returns : goal.returns
returns c =
    let far = c in
    pending-gives _ c.requires.good c.in_use.ensures c.host_pending-answer.ensures
    c.put_host_pending-next.ensures
