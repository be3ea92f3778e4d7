-- `take_tx::carry_out` meets its contract: settled, and what left copied out. Assumes nothing.
use native.Mathlib.Omega.{arith}
use Rattle.host.specs.TakesTx.{tx-taken}
use Rattle.host.proofs.take_tx.carry_out.Goals as goal

pub settle_at-t-requires : goal.settle_at-t-requires
settle_at-t-requires c = (c.requires.0, c.requires.1)

pub copy_out-count-requires : goal.copy_out-count-requires
copy_out-count-requires c =
    let s = c.settle_at-t.ensures in (
      s.ok.shape.tx,
      s.ok.shape.tx_slots,
      omega
          (arith, s.ok.shape.tx.few, c.requires.2),
    )

pub returns : goal.returns
returns c =
    let start = c in
    let copied = c.copy_out-count.ensures in
    tx-taken c.args.cycle c.args.out.now c.requires.0
    c.settle_at-t.ensures
    copied.value copied.out_after c.new-settled.ensures c.done.ensures
