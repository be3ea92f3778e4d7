-- `control::put_control` meets its contract: six puts, one behind the other. Assumes nothing.
use mathlib.Core.Path.{refl}
use Rattle.park.specs.Puts.{puts-both, puts-same}
use Rattle.park.specs.Fields.{puts-value, control-bytes}
use Rattle.park.proofs.control.put_control.Goals as goal

pub returns : goal.returns
returns c =
    let sixth = c in
    let fifth = c in
    let fourth = c in
    let third = c in
    let second = c in
    let first = c in
    puts-same refl (control-bytes c.args.control)
    (puts-both c.put-dated.ensures (puts-both c.put_date-armed.ensures (puts-both c.put-clocked.ensures
    (puts-both c.put_date-powered.ensures (puts-both (puts-value 1 c.mark.ensures c.put-watched.ensures)
    (puts-value 1 c.mark-2.ensures c.put.ensures))))))
