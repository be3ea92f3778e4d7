-- A form of a state whose bytes are bytes is bytes. Assumes nothing.
use Rattle.std.specs.Prelude.{ℕ, zero, suc, ◌/◌, ◌%◌, ◌<◌}
use Rattle.std.proofs.Common.{sym, subst, arith}
use mathlib.Core.List.{List, [], ◌∷◌, map, flat_map}
use Rattle.model.specs.State.{Uart, line_bytes}
use Rattle.model.specs.Calls.{written}
use Rattle.model.specs.Limits.{All, nil, cons}
use Rattle.model.proofs.Laws.Lists.{all_append}
use Rattle.model.specs.Widths.{Bytes, Widths}
use Rattle.form.specs.Cells.{bytes_of, Field, low_first, field_bytes}
use Rattle.form.specs.Form.{short, map_fields, word_fields, date_and_mark_fields, run_fields, head_length, pairs_from, form}
use Rattle.form.proofs.Laws.Parts.{joined, laid_bytes}
use Rattle.form.proofs.Laws.Back.{seven, form-bytes}

low-bytes : (k n : ℕ) → Bytes (low_first k n)
unfolding low_first
low-bytes zero n = nil
low-bytes (suc k) n =
    let low : n % 256 < 256 = omega arith in
    cons low (low-bytes k (n / 256))

field-bytes : (fs : List Field) → Bytes (field_bytes fs)
unfolding field_bytes flat_map
field-bytes [] = nil
field-bytes (f ∷ fs) = all_append (low_first f.width f.value) (field_bytes fs) (low-bytes f.width f.value) (field-bytes fs)

joined_bytes : (qs : List (List ℕ)) → All Bytes qs → Bytes (joined qs)
unfolding flat_map
joined_bytes [] a = nil
joined_bytes (q ∷ qs) (cons b a) = all_append q (joined qs) b (joined_bytes qs a)

pub form-is-bytes : (u : Uart ℕ ℕ) → Widths u → Bytes (bytes_of (form u))
unfolding laid_bytes written
form-is-bytes u w =
    subst Bytes (sym (form-bytes u))
    (all_append (field_bytes (short 7 ∷ pairs_from head_length (seven u))) (joined (seven u))
    (field-bytes (short 7 ∷ pairs_from head_length (seven u)))
    (joined_bytes (seven u) (
    cons (field-bytes (map_fields u.map)) (
    cons (field-bytes (word_fields u.control.words)) (
    cons (field-bytes (date_and_mark_fields u)) (
    cons (all_append u.tx (map (λ s. s.byte) u.in_flight) w.tx w.in_flight) (
    cons (all_append (line_bytes u.receiving) u.host w.receiving w.host) (
    cons (field-bytes (run_fields u.host_runs)) (
    cons w.rx nil)))))))))
