-- `control::put_line` meets its contract: six puts, one behind the other. Assumes nothing.
use mathlib.Core.Path.{refl}
use Rattle.device.specs.Holds.{on_the_line}
use Rattle.park.specs.Puts.{puts-both, puts-same}
use Rattle.park.specs.Fields.{puts-value, line-bytes}
use Rattle.park.proofs.control.put_line.Goals as goal

pub returns : goal.returns
returns c =
    let sixth = c in
    let fifth = c in
    let fourth = c in
    let third = c in
    let second = c in
    let first = c in
    let a = c.args in
    puts-same refl (line-bytes a.line (on_the_line a.receiving 0))
    (puts-both c.put-raw.ensures (puts-both (puts-value 1 c.source_number.ensures c.put-sourced.ensures)
    (puts-both c.put_date-idle.ensures (puts-both c.put-free.ensures
    (puts-both (puts-value 1 c.frame_mark.ensures c.put-heard.ensures)
    (puts-value 1 c.frame_source.ensures c.put.ensures))))))
