-- A number's bytes give the number back, and bytes a number that fits their width. Assumes nothing.
use Rattle.std.specs.Prelude.{◌≡◌, refl, ℕ, zero, suc, ◌+◌, ◌*◌, ◌/◌, ◌^◌, ◌<◌, length, take, drop, replicate}
use Rattle.std.proofs.Common.{sym, ap, ap₂, ◌∙◌, pow-suc, length-append, take_at, drop_at}
use native.Mathlib.Omega.{arith}
use mathlib.Core.List.{List, [], ◌∷◌, ◌++◌, map, flat_map, append-nil, append_assoc}
use Rattle.model.specs.Events.{total}
use Rattle.model.specs.Limits.{All, nil, cons}
use Rattle.form.specs.Cells.{Field, low_first, field_bytes, of_width}
use Rattle.form.specs.Read.{value_of, numbers_in}

pub length-low : (k n : ℕ) → length (low_first k n) ≡ k
unfolding low_first
length-low zero n = refl
length-low (suc k) n = ap suc (length-low k (n / 256))

-- what `width` bytes can hold
abbrev pub Holds : Field → Type 0
Holds f = f.value < 256 ^ f.width

pub value-back : (k n : ℕ) → n < 256 ^ k → value_of (low_first k n) ≡ n
unfolding value_of low_first
value-back zero n h = omega (arith)
value-back (suc k) n h =
    let rest : value_of (low_first k (n / 256)) ≡ n / 256 = value-back k (n / 256) (omega (arith, pow-suc 256 k)) in
    omega (arith, rest)

pub value-fits : (bs : List ℕ) → All (λ b. b < 256) bs → value_of bs < 256 ^ length bs
unfolding value_of
value-fits [] a = omega arith
value-fits (b ∷ bs) (cons h a) = omega (arith, pow-suc 256 (length bs), value-fits bs a)

-- fields are read one by one
pub numbers-back : (fs : List Field) (r : List ℕ) → All Holds fs
    → numbers_in (map (λ f. f.width) fs) (field_bytes fs ++ r) ≡ map (λ f. f.value) fs
unfolding numbers_in field_bytes flat_map
numbers-back [] r a = refl
numbers-back (f ∷ fs) r (cons h a) =
    let bytes : List ℕ = low_first f.width f.value in
    let whole : (bytes ++ field_bytes fs) ++ r ≡ bytes ++ (field_bytes fs ++ r) = append_assoc bytes (field_bytes fs) r in
    let long : length bytes ≡ f.width = length-low f.width f.value in
    ap₂ ◌∷◌
    (ap (λ l. value_of (take f.width l)) whole ∙ ap value_of (take_at bytes (field_bytes fs ++ r) f.width long)
    ∙ value-back f.width f.value h)
    (ap (λ l. numbers_in (map (λ g. g.width) fs) (drop f.width l)) whole
    ∙ ap (numbers_in (map (λ g. g.width) fs)) (drop_at bytes (field_bytes fs ++ r) f.width long) ∙ numbers-back fs r a)

-- so many bytes
pub length_fields : (fs : List Field) → length (field_bytes fs) ≡ total (λ f. f.width) fs
unfolding field_bytes flat_map total
length_fields [] = refl
length_fields (f ∷ fs) =
    length-append (low_first f.width f.value) (field_bytes fs) ∙ ap₂ ◌+◌ (length-low f.width f.value) (length_fields fs)

-- ---- numbers of one width

module _ (w : ℕ) where
  pub widths : (ns : List ℕ) → map (λ f. f.width) (map (of_width w) ns) ≡ replicate (length ns) w
  widths [] = refl
  widths (n ∷ ns) = ap (λ l. w ∷ l) (widths ns)

  pub values : (ns : List ℕ) → map (λ f. f.value) (map (of_width w) ns) ≡ ns
  values [] = refl
  values (n ∷ ns) = ap (λ l. n ∷ l) (values ns)

  pub each_holds : (ns : List ℕ) → All (λ n. n < 256 ^ w) ns → All Holds (map (of_width w) ns)
  each_holds [] nil = nil
  each_holds (n ∷ ns) (cons h a) = cons h (each_holds ns a)

  pub width-total : (ns : List ℕ) → total (λ f. f.width) (map (of_width w) ns) ≡ w * length ns
  unfolding total
  width-total [] = omega arith
  width-total (n ∷ ns) = omega (arith, width-total ns)

  pub one-width-back : (ns : List ℕ) → All (λ n. n < 256 ^ w) ns → numbers_in (replicate (length ns) w) (field_bytes (map (of_width w) ns))
      ≡ ns
  one-width-back ns a =
      ap₂ numbers_in (sym (widths ns)) (sym (append-nil (field_bytes (map (of_width w) ns))))
      ∙ numbers-back (map (of_width w) ns) [] (each_holds ns a) ∙ values ns
