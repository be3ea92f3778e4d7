-- `words::put_map` meets its contract: sixteen numbers of one width and eleven behind them. Assumes nothing.
use mathlib.Core.Path.{sym, ap, ◌∙◌}
use mathlib.Core.List.{map-append}
use Prim.Native.Nat.{ℕ, ◌+◌, ◌*◌}
use Rattle.form.specs.Cells.{field_bytes}
use Rattle.form.specs.Form.{word, reset_list, map_fields}
use Rattle.park.specs.Puts.{puts-both, puts-same}
use Rattle.park.specs.Fields.{fields-both}
use Rattle.park.proofs.words.put_map.Goals as goal

pub returns : goal.returns
unfolding map_fields
returns c =
    let second = c in
    let first = c in
    let start = c in
    let map = c.args.map in
    puts-same (ap (λ (k : ℕ). 4 * k + 44) c.requires.1)
    (sym (ap field_bytes (map-append word map.offsets (reset_list map)) ∙ fields-both _ _))
    (puts-both c.put_numbers-placed.ensures c.put_numbers.ensures)
