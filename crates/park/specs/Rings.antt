-- The elements of a ring put one after the other. Assumes nothing.
use Rattle.std.specs.Prelude.{◌≡◌, refl, ℕ, ◌+◌, ◌*◌, length, Some, None}
use Rattle.std.proofs.Common.{sym, ap, ◌∙◌, add-one, arith}
use mathlib.Core.List.{List, [], ◌∷◌, ◌++◌, map, flat_map, append-nil}
use Rattle.model.specs.State.{Run, line_bytes}
use Rattle.queue.specs.Listed.{listed, listed_suc}
use Rattle.device.specs.Holds.{on_the_line}
use Rattle.form.specs.Cells.{Field, low_first, field_bytes}
use Rattle.form.specs.Form.{long, short, run_fields}
use Rattle.park.specs.Puts.{Puts, puts-both, puts-same}
use Rattle.park.specs.Fields.{fields-both, number_more}
use Rattle.line.specs.Names.{Receiving}

-- how many bytes are on the line
abbrev pub line_count : Receiving → ℕ
line_count None = 0
line_count (Some f) = 1

pub line-count : (r : Receiving) (b : ℕ) → length (line_bytes (on_the_line r b)) ≡ line_count r
unfolding on_the_line
line-count None b = refl
line-count (Some f) b = refl

-- the first i dates are put, and the next one is put behind them
pub puts-date : (f : ℕ → ℕ) (i : ℕ) {at next last : ℕ} {out mid after : List ℕ}
    → Puts (8 * i) (field_bytes (map long (listed f i))) out at mid next → Puts 8 (low_first 8 (f i)) mid next after last
    → Puts (8 * (i + 1)) (field_bytes (map long (listed f (i + 1)))) out at after last
puts-date f i p q =
    puts-same (let e : 8 * i + 8 ≡ 8 * (i + 1) = omega arith in e)
    (sym (ap (λ (k : ℕ). field_bytes (map long (listed f k))) (add-one i) ∙ ap (λ (l : List ℕ). field_bytes (map long l)) (listed_suc f i)
    ∙ number_more 8 (listed f i) (f i)))
    (puts-both p q)

-- ---- runs

runs-both : (rs qs : List Run) → run_fields (rs ++ qs) ≡ run_fields rs ++ run_fields qs
unfolding run_fields flat_map
runs-both [] qs = refl
runs-both (r ∷ rs) qs = ap (λ (l : List Field). long r.date ∷ short r.count ∷ l) (runs-both rs qs)

run-bytes : (r : Run) → field_bytes (run_fields (r ∷ [])) ≡ low_first 8 r.date ++ low_first 2 r.count
unfolding run_fields field_bytes flat_map
run-bytes r = simp append-nil

-- the first i runs are put, and the date and the count of the next one are put behind them
pub puts-run : (f : ℕ → Run) (i : ℕ) {at next dated last : ℕ} {out mid half after : List ℕ}
    → Puts (10 * i) (field_bytes (run_fields (listed f i))) out at mid next → Puts 8 (low_first 8 (f i).date) mid next half dated
    → Puts 2 (low_first 2 (f i).count) half dated after last
    → Puts (10 * (i + 1)) (field_bytes (run_fields (listed f (i + 1)))) out at after last
puts-run f i p q r =
    puts-same (let e : 10 * i + (8 + 2) ≡ 10 * (i + 1) = omega arith in e)
    (sym (ap (λ (k : ℕ). field_bytes (run_fields (listed f k))) (add-one i)
    ∙ ap (λ (l : List Run). field_bytes (run_fields l)) (listed_suc f i)
    ∙ ap field_bytes (runs-both (listed f i) (f i ∷ [])) ∙ fields-both (run_fields (listed f i)) (run_fields (f i ∷ []))
    ∙ ap (λ (l : List ℕ). field_bytes (run_fields (listed f i)) ++ l) (run-bytes (f i))))
    (puts-both p (puts-both q r))
