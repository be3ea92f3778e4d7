-- Fields one after the other as bytes, and one more behind them. Assumes nothing.
use Rattle.std.specs.Prelude.{◌≡◌, refl, ℕ, suc, ◌+◌, ◌*◌, ◌<◌, ◌≤◌, length, take, get_or}
use Rattle.std.proofs.Common.{sym, ap, ◌∙◌, mul-suc, mul-le-mul_left, add-one, arith, take-suc}
use Rattle.std.proofs.Math.Option.{Option}
use mathlib.Core.List.{List, [], ◌∷◌, ◌++◌, map, flat_map, map-append, append-nil, append_assoc}
use Rattle.model.specs.Numbers.{instant_of}
use Rattle.model.specs.State.{OnTheLine}
use Rattle.form.specs.Cells.{Field, low_first, field_bytes}
use Rattle.form.specs.Form.{byte, word, long, mark_of, date_mark, source_number, frame_mark, frame_source}
use Rattle.form.specs.Cells.{of_width}
use Rattle.park.specs.Puts.{Puts, puts-both, puts-same}
use Rattle.model.specs.Names.{Date}
use Rattle.model.specs.declared.Line.{Line}
use Rattle.model.specs.declared.Control.{Control}

-- fields, and then others
pub fields-both : (fs gs : List Field) → field_bytes (fs ++ gs) ≡ field_bytes fs ++ field_bytes gs
unfolding field_bytes flat_map
fields-both [] gs = refl
fields-both (f ∷ fs) gs =
    ap (λ (l : List ℕ). low_first f.width f.value ++ l) (fields-both fs gs)
    ∙ sym (append_assoc (low_first f.width f.value) (field_bytes fs) (field_bytes gs))

-- one alone
pub field-alone : (f : Field) → field_bytes (f ∷ []) ≡ low_first f.width f.value
unfolding field_bytes flat_map
field-alone f = append-nil (low_first f.width f.value)

-- one number more of a width
pub number_more : (w : ℕ) (ns : List ℕ) (n : ℕ)
    → field_bytes (map (of_width w) (ns ++ (n ∷ []))) ≡ field_bytes (map (of_width w) ns) ++ low_first w n
number_more w ns n =
    ap field_bytes (map-append (of_width w) ns (n ∷ []))
    ∙ fields-both (map (of_width w) ns) (of_width w n ∷ [])
    ∙ ap (λ (l : List ℕ). field_bytes (map (of_width w) ns) ++ l) (field-alone (of_width w n))

-- the numbers before place i of a list are put, and the one at it is put behind them
pub puts-number : (w i : ℕ) (ns : List ℕ) {at next last : ℕ} {out mid after : List ℕ} → i < length ns
    → Puts (w * i) (field_bytes (map (of_width w) (take i ns))) out at mid next → Puts w (low_first w (get_or ns i 0)) mid next after last
    → Puts (w * (i + 1)) (field_bytes (map (of_width w) (take (i + 1) ns))) out at after last
puts-number w i ns low p q =
    puts-same (sym (ap (λ (k : ℕ). w * k) (add-one i) ∙ mul-suc w i))
    (sym (ap (λ (k : ℕ). field_bytes (map (of_width w) (take k ns))) (add-one i)
    ∙ ap (λ (l : List ℕ). field_bytes (map (of_width w) l)) (take-suc ns i 0 low) ∙ number_more w (take i ns) (get_or ns i 0)))
    (puts-both p q)

-- one more of a width fits where all do
pub one-fits : (w i m : ℕ) → i < m → w * i + w ≤ w * m
one-fits w i m low = omega (arith, mul-suc w i, mul-le-mul_left {m = suc i} {n = m} w low)

-- a number is put, and it is this one
pub puts-value : (w : ℕ) {n m at next : ℕ} {out after : List ℕ} → n ≡ m → Puts w (low_first w n) out at after next
    → Puts w (low_first w m) out at after next
puts-value w e p = puts-same refl (ap (low_first w) e) p

-- ---- the dates and marks that are always there

-- a date that may be missing
abbrev pub date_fields : Date → List Field
date_fields d = byte (date_mark d) ∷ long (instant_of d) ∷ []

-- those of the control but the line's
abbrev pub control_fields : Control → List Field
control_fields c =
    long c.last
    ∷ byte (date_mark c.wake) ∷ long (instant_of c.wake)
    ∷ long c.period
    ∷ byte (date_mark c.powered_down_at) ∷ long (instant_of c.powered_down_at)
    ∷ byte (mark_of c.watched)
    ∷ byte (mark_of c.level)
    ∷ []

-- the line's, with the mark and the source of the frame on it
abbrev pub line_marked : Line → ℕ → ℕ → List Field
line_marked l mark source =
    word l.int_raw
    ∷ byte (source_number l.rx_mistimed)
    ∷ byte (date_mark l.idle_since) ∷ long (instant_of l.idle_since)
    ∷ long l.line_free_at
    ∷ byte mark ∷ byte source
    ∷ []

abbrev pub line_fields : Line → Option (OnTheLine ℕ) → List Field
line_fields l r = line_marked l (frame_mark r) (frame_source r)

-- in the order of the source: number by number, and a date as a whole
pub date-bytes : (d : Date) → low_first 1 (date_mark d) ++ low_first 8 (instant_of d) ≡ field_bytes (date_fields d)
unfolding field_bytes flat_map
date-bytes d = simp (append-nil)

pub control-bytes : (c : Control)
    → low_first 8 c.last ++ (field_bytes (date_fields c.wake) ++ (low_first 8 c.period
    ++ (field_bytes (date_fields c.powered_down_at) ++ (low_first 1 (mark_of c.watched) ++ low_first 1 (mark_of c.level)))))
    ≡ field_bytes (control_fields c)
unfolding field_bytes flat_map
control-bytes c = simp (append-nil, append_assoc)

pub line-bytes : (l : Line) (r : Option (OnTheLine ℕ))
    → low_first 4 l.int_raw ++ (low_first 1 (source_number l.rx_mistimed) ++ (field_bytes (date_fields l.idle_since)
    ++ (low_first 8 l.line_free_at ++ (low_first 1 (frame_mark r) ++ low_first 1 (frame_source r))))) ≡ field_bytes (line_fields l r)
unfolding field_bytes flat_map
line-bytes l r = simp (append-nil, append_assoc)
