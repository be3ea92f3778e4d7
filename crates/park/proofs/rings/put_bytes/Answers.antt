-- `rings::put_bytes` meets its contract: the copy stands at the front of the rest. Assumes nothing.
use Rattle.queue.specs.Laws.{elems-length}
use Rattle.park.specs.Puts.{puts-part}
use Rattle.park.proofs.rings.put_bytes.Goals as goal

pub returns : goal.returns
returns c =
    let copy = c.copy_out-n.ensures in
    let start = c in
    let a = c.args in
    rw copy.value
    (puts-part a.cursor.count _ a.out.now a.at (elems-length _ _ a.cursor) c.requires.2 copy.out_after)
