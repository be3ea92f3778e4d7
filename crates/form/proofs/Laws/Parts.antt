-- Parts that are laid out lie as they must, and are read back. Assumes nothing.
use Rattle.std.specs.Prelude.{◌≡◌, ℕ, ◌+◌, ◌*◌, ◌<◌, true, drop}
use Rattle.std.proofs.Math.Path.{refl, sym, ap, ap₂}
use Rattle.std.proofs.Common.{◌∙◌, arith, drop-drop}
use Rattle.std.proofs.Math.Bool.{◌&&◌}
use mathlib.Core.List.{List, [], ◌∷◌, ◌++◌, map, flat_map, map-append}
use Rattle.std.proofs.Math.ListN.{length, take, length-append}
use Rattle.std.proofs.lemmas.List.{length-map}
use Rattle.std.proofs.Math.Seq.{take-append_seam, drop-append_seam, drop_at}
use borrow.Author.Tests.{eq-eqb, le-leb}
use Rattle.model.specs.Events.{total}
use Rattle.form.specs.Cells.{Cell, byte_of, bytes_of, Field, low_first, field_bytes, numbers}
use Rattle.form.specs.Form.{short, head_length, pairs_from, laid_out}
use Rattle.form.specs.Read.{value_of, number_at, parts_from, parts_in}
use Rattle.form.specs.Load.{pairs_lie, lies}
use Rattle.form.proofs.Laws.Numbers.{value-back, length_fields}

abbrev pub joined : List (List ℕ) → List ℕ
joined qs = flat_map (λ q. q) qs

-- the same of bytes
unfoldable pub laid_bytes : List (List ℕ) → List ℕ
laid_bytes qs = field_bytes (short (length qs) ∷ pairs_from head_length qs) ++ joined qs

-- ---- one pair

-- at this place stands the pair of a part that begins at `at`, and the pairs and parts behind it stand behind it
record Pair (at place : ℕ) (bs q : List ℕ) (qs : List (List ℕ)) (r : List ℕ) : Type 0 where
  offset : number_at place 2 bs ≡ at
  long : number_at (place + 2) 2 bs ≡ length q
  part : take (length q) (drop at bs) ≡ q
  pairs : drop (place + 4) bs ≡ field_bytes (pairs_from (at + length q) qs) ++ r
  parts : drop (at + length q) bs ≡ joined qs

pair : (at place : ℕ) (bs q : List ℕ) (qs : List (List ℕ)) (r : List ℕ) → drop place bs ≡ field_bytes (pairs_from at (q ∷ qs)) ++ r
    → drop at bs ≡ joined (q ∷ qs) → at < 65536 → length q < 65536 → Pair at place bs q qs r
unfolding number_at pairs_from field_bytes flat_map low_first
pair at place bs q qs r e f h k = record {
  offset = ap (λ l. value_of (take 2 l)) e ∙ value-back 2 at (omega arith);
  long =
      ap (λ l. value_of (take 2 l)) (sym (drop-drop 2 place bs) ∙ ap (drop 2) e) ∙ value-back 2 (length q) (omega arith);
  part = ap (take (length q)) f ∙ take-append_seam q (joined qs);
  pairs = sym (drop-drop 4 place bs) ∙ ap (drop 4) e;
  parts = sym (drop-drop (length q) at bs) ∙ ap (drop (length q)) f ∙ drop-append_seam q (joined qs);
}

-- ---- all pairs

module _ (bs r : List ℕ) (small : length bs < 65536) where
  parts-back : (qs : List (List ℕ)) (at place : ℕ) → drop place bs ≡ field_bytes (pairs_from at qs) ++ r → drop at bs ≡ joined qs
      → at + length (joined qs) ≡ length bs → parts_from (length qs) place bs ≡ qs
  unfolding parts_from flat_map
  parts-back [] at place e f s = refl
  parts-back (q ∷ qs) at place e f s =
      let n = length-append q (joined qs) in
      let p = pair at place bs q qs r e f (omega (arith, n)) (omega (arith, n)) in
      ap₂ ◌∷◌ (ap₂ (λ (x y : ℕ). take x (drop y bs)) p.long p.offset ∙ p.part)
      (parts-back qs (at + length q) (place + 4) p.pairs p.parts (omega (arith, n)))

  pairs-lie : (qs : List (List ℕ)) (at place : ℕ) → drop place bs ≡ field_bytes (pairs_from at qs) ++ r → drop at bs ≡ joined qs
      → at + length (joined qs) ≡ length bs → pairs_lie (length qs) at place bs ≡ true
  unfolding pairs_lie flat_map
  pairs-lie [] at place e f s = eq-eqb at (length bs) (omega (arith, s))
  pairs-lie (q ∷ qs) at place e f s =
      let n = length-append q (joined qs) in
      let p = pair at place bs q qs r e f (omega (arith, n)) (omega (arith, n)) in
      ap₂ ◌&&◌ (eq-eqb (number_at place 2 bs) at p.offset)
      (ap (λ (x : ℕ). pairs_lie (length qs) (at + x) (place + 4) bs) p.long
      ∙ pairs-lie qs (at + length q) (place + 4) p.pairs p.parts (omega (arith, n)))

-- ---- from the first byte on

pairs-long : {A : Type 0} (qs : List (List A)) (at : ℕ) → total (λ f. f.width) (pairs_from at qs) ≡ 4 * length qs
unfolding pairs_from total
pairs-long [] at = refl
pairs-long (q ∷ qs) at = omega (arith, pairs-long qs (at + length q))

pub head-long : {A : Type 0} (qs : List (List A)) → length qs ≡ 7
    → length (field_bytes (short (length qs) ∷ pairs_from head_length qs)) ≡ head_length
unfolding total
head-long qs e =
    omega (arith, e, length_fields (short (length qs) ∷ pairs_from head_length qs), pairs-long qs head_length)

module _ (qs : List (List ℕ)) (seven : length qs ≡ 7) (small : length (laid_bytes qs) < 65536) where
  abbrev bs : List ℕ
  bs = laid_bytes qs

  behind-count : drop 2 bs ≡ field_bytes (pairs_from head_length qs) ++ joined qs
  unfolding laid_bytes field_bytes flat_map low_first
  behind-count = refl

  behind-pairs : drop head_length bs ≡ joined qs
  unfolding laid_bytes
  behind-pairs = drop_at (field_bytes (short (length qs) ∷ pairs_from head_length qs)) (joined qs) head_length (head-long qs seven)

  whole : head_length + length (joined qs) ≡ length bs
  unfolding laid_bytes
  whole =
      ap (λ (n : ℕ). n + length (joined qs)) (sym (head-long qs seven))
      ∙ sym (length-append (field_bytes (short (length qs) ∷ pairs_from head_length qs)) (joined qs))

  count : number_at 0 2 bs ≡ 7
  unfolding number_at laid_bytes field_bytes flat_map low_first
  count = value-back 2 (length qs) (omega (arith, seven)) ∙ seven

  pub parts-read : parts_in bs ≡ qs
  parts-read =
      ap (λ (k : ℕ). parts_from k 2 bs) (sym seven) ∙ parts-back bs (joined qs) small qs head_length 2 behind-count behind-pairs whole

  pub parts-lie : lies bs ≡ true
  unfolding lies
  parts-lie =
      ap₂ ◌&&◌ (le-leb head_length (length bs) (omega (arith, whole)))
      (ap₂ ◌&&◌ (eq-eqb (number_at 0 2 bs) 7 count)
      (ap (λ (k : ℕ). pairs_lie k head_length 2 bs) (sym seven)
      ∙ pairs-lie bs (joined qs) small qs head_length 2 behind-count behind-pairs whole))

-- ---- cells as bytes

cells-bytes : (c : ℕ → Cell ℕ ℕ) → ((b : ℕ) → byte_of (c b) ≡ b) → (bs : List ℕ) → bytes_of (map c bs) ≡ bs
cells-bytes c e [] = refl
cells-bytes c e (b ∷ bs) = ap₂ ◌∷◌ (e b) (cells-bytes c e bs)

pub numbers-bytes : (fs : List Field) → bytes_of (numbers fs) ≡ field_bytes fs
unfolding numbers byte_of
numbers-bytes fs = cells-bytes Cell.number (λ b. refl) (field_bytes fs)

pub host-bytes : (bs : List ℕ) → bytes_of (map Cell.host bs) ≡ bs
unfolding byte_of
host-bytes bs = cells-bytes Cell.host (λ b. refl) bs

pub written-bytes : (bs : List ℕ) → bytes_of (map Cell.written bs) ≡ bs
unfolding byte_of
written-bytes bs = cells-bytes Cell.written (λ b. refl) bs

module _ {A B : Type 0} (k : A → B) where
  pub pairs-mapped : (ps : List (List A)) (at : ℕ) → pairs_from at (map (map k) ps) ≡ pairs_from at ps
  unfolding pairs_from
  pairs-mapped [] at = refl
  pairs-mapped (p ∷ ps) at = rw (length-map p k, pairs-mapped ps (at + length p)) refl

  pub joined-mapped : (ps : List (List A)) → map k (flat_map (λ p. p) ps) ≡ flat_map (λ p. p) (map (map k) ps)
  unfolding flat_map
  joined-mapped [] = refl
  joined-mapped (p ∷ ps) = map-append k p (flat_map (λ q. q) ps) ∙ ap (λ l. map k p ++ l) (joined-mapped ps)

pub laid-bytes : (ps : List (List (Cell ℕ ℕ))) → bytes_of (laid_out ps) ≡ laid_bytes (map bytes_of ps)
unfolding laid_out laid_bytes
laid-bytes ps =
    map-append byte_of (numbers (short (length ps) ∷ pairs_from head_length ps)) (flat_map (λ q. q) ps)
    ∙ ap₂ ◌++◌
    (numbers-bytes (short (length ps) ∷ pairs_from head_length ps)
    ∙ ap₂ (λ (n : ℕ) fs. field_bytes (short n ∷ fs)) (sym (length-map ps bytes_of)) (sym (pairs-mapped byte_of ps head_length)))
    (joined-mapped byte_of ps)
