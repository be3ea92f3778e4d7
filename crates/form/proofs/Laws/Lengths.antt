-- How long a form is. Assumes nothing.
use Rattle.std.specs.Prelude.{◌≡◌, ℕ, ◌+◌, ◌*◌, ◌≤◌, length}
use Rattle.std.proofs.Math.Path.{refl}
use Rattle.std.proofs.Common.{ap, ◌∙◌}
use native.Mathlib.Omega.{arith}
use Rattle.std.proofs.Math.Option.{Option, none, some}
use mathlib.Core.List.{List, [], ◌∷◌, ◌++◌, map, flat_map}
use Rattle.std.proofs.Math.ListN.{length-append, length-map}
use Rattle.model.specs.Events.{total}
use Rattle.model.specs.State.{Run, OnTheLine, Uart, line_bytes}
use Rattle.model.specs.Calls.{written}
use Rattle.model.specs.Limits.{flight_dates, Within}
use Rattle.form.specs.Cells.{Cell, Field, low_first, field_bytes, numbers}
use Rattle.form.specs.Form.{short, word_list, reset_list, map_fields, word_fields, date_and_mark_fields, run_fields, parts_of}
use Rattle.form.specs.Form.{head_length, pairs_from}
use Rattle.form.specs.Form.{laid_out, form, shortest_form, largest_form}
use Rattle.form.specs.Read.{fixed_length}
use Rattle.form.proofs.Laws.Numbers.{length_fields, width-total}
use Rattle.form.proofs.Laws.Parts.{head-long}
use Rattle.model.specs.declared.Words.{Words}
use Rattle.model.specs.declared.RegisterMap.{RegisterMap}

-- ---- the parts

one-width-long : (w : ℕ) (ns : List ℕ) → length (field_bytes (map (λ n. record { width = w; value = n }) ns)) ≡ w * length ns
one-width-long w ns = length_fields (map (λ n. record { width = w; value = n }) ns) ∙ width-total w ns

pub map-long : (m : RegisterMap) → length m.offsets ≡ 16 → length (field_bytes (map_fields m)) ≡ 108
unfolding map_fields
map-long m sixteen =
    omega (arith, one-width-long 4 (m.offsets ++ reset_list m), length-append m.offsets (reset_list m), sixteen)

pub words_long : (w : Words) → length (field_bytes (word_fields w)) ≡ 36
unfolding word_fields
words_long w = one-width-long 4 (word_list w)

pub dates-long : {H W : Type 0} (u : Uart H W) → length (field_bytes (date_and_mark_fields u)) ≡ fixed_length + 8 * length u.in_flight
unfolding date_and_mark_fields total
dates-long u =
    omega (arith, length_fields (date_and_mark_fields u), width-total 8 (flight_dates u.in_flight), length-map u.in_flight (λ s. s.gone_at))

pub runs-long : (rs : List Run) → length (field_bytes (run_fields rs)) ≡ 10 * length rs
unfolding run_fields flat_map field_bytes low_first
runs-long [] = refl
runs-long (r ∷ rs) = omega (arith, runs-long rs)

-- ---- the whole

numbers-long : (H W : Type 0) (fs : List Field) → length (numbers {H = H} {W = W} fs) ≡ length (field_bytes fs)
unfolding numbers
numbers-long H W fs = length-map (field_bytes fs) Cell.number

joined-long : {A : Type 0} (ps : List (List A)) → length (flat_map (λ p. p) ps) ≡ total length ps
unfolding flat_map total
joined-long [] = refl
joined-long (p ∷ ps) = length-append p (flat_map (λ q. q) ps) ∙ ap (λ (n : ℕ). length p + n) (joined-long ps)

line-long : {H : Type 0} (r : Option (OnTheLine H)) → length (line_bytes r) ≤ 1
line-long none = omega arith
line-long (some l) = omega arith

module _ {H W : Type 0} where
  abbrev as_written : W → Cell H W
  as_written b = Cell.written b

  abbrev as-host : H → Cell H W
  as-host b = Cell.host b

  -- of what its parts hold
  abbrev pub form_length : Uart H W → ℕ
  form_length u =
      shortest_form + 9 * length u.in_flight + length u.tx + length (line_bytes u.receiving) + length u.host
      + 10 * length u.host_runs + length u.rx

  pub form-long : (u : Uart H W) → length u.map.offsets ≡ 16 → length (form u) ≡ form_length u
  unfolding form laid_out parts_of written total
  form-long u sixteen =
      let head : List Field = short 7 ∷ pairs_from head_length (parts_of u) in
      omega (
        arith,
        length-append (numbers head) (flat_map (λ p. p) (parts_of u)),
        numbers-long H W head,
        head-long (parts_of u) refl,
        joined-long (parts_of u),
        numbers-long H W (map_fields u.map),
        map-long u.map sixteen,
        numbers-long H W (word_fields u.control.words),
        words_long u.control.words,
        numbers-long H W (date_and_mark_fields u),
        dates-long u,
        length-map (written u) as_written,
        length-append u.tx (map (λ s. s.byte) u.in_flight),
        length-map u.in_flight (λ s. s.byte),
        length-map (line_bytes u.receiving ++ u.host) as-host,
        length-append (line_bytes u.receiving) u.host,
        numbers-long H W (run_fields u.host_runs),
        runs-long u.host_runs,
        length-map u.rx as-host,
      )

  -- no form is longer
  pub form-largest : (u : Uart H W) → Within u → length (form u) ≤ largest_form
  form-largest u w =
      omega (arith, form-long u w.sixteen, line-long u.receiving, w.flying, w.sent, w.host, w.runs, w.received)
