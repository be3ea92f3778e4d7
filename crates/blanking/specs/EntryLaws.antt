-- Laws of the text of a call: how it is put piece by piece, and how long it can be. Assumes nothing.
use Rattle.std.specs.Prelude.{◌≡◌, List, [], ◌∷◌, ◌++◌, map, ℕ, zero, suc, ◌+◌, ◌-◌, ◌*◌, ◌/◌, ◌<◌, ◌≤◌, min, ltb, length, get_or, take}
use Rattle.std.specs.Prelude.{drop, replicate}
use Rattle.std.proofs.Math.Path.{refl}
use Rattle.std.proofs.Common.{ap, ap₂, sym, subst, ◌∙◌, append-nil, append_assoc, ⊎_elim, le_of_suc-le-suc, add-one, length-append}
use Rattle.std.proofs.Common.{length-take}
use native.Mathlib.Omega.{arith}
use Rattle.std.proofs.lemmas.List.{length-map, length-replicate}
use Rattle.text.specs.Pick.{side}
use Rattle.text.specs.Decimal.{decimal_up_to, digits_more, digits_last}
use Rattle.text.specs.HexText.{hex_text, pairs-length}
use Rattle.trace.specs.Low.{low_of}
use Rattle.trace.specs.Names.{letters}
use Rattle.trace.specs.declared.names.Name.{Name}
use Rattle.trace.specs.declared.names.Name.TheVariants.{Setup, Read, Write, WriteRow, Receive, Wake, Watch, Reset, PowerDown, Clock}
use Rattle.trace.specs.declared.names.Name.TheVariants.{TakeTx, TakeWritten, HasLeft, HostPending, Figures}
use Rattle.trace.specs.Pairs.{firsts_in, seconds_in}
use Rattle.figures.specs.Figures.{LineFigures, figures_of}
use Rattle.figures.proofs.Exactly.{Result, result}
use Rattle.theorems.specs.Blanked.{blank_byte, blank_word, blank_written, blank_resets, blanked, blanked_asked}
use Rattle.blanking.specs.Entries.{entry_of, blanked_entry, number, numbers, pairs, bit_number, machine_words, call_words, entry_words}
use Rattle.blanking.specs.Entries.{machine_name, call_name}
use Rattle.blanking.specs.Entries.{entry_name, entry_text, blank_starts, blank_ends}
use Rattle.blanking.specs.Puts.{Puts}

-- one number more
more : (ns : List ℕ) (i : ℕ) → i < length ns → numbers (take i ns) ++ number (get_or ns i 0) ≡ numbers (take (suc i) ns)
unfolding numbers
more [] i h = absurd (omega arith)
more (n ∷ ns) zero h = sym (append-nil (number n))
more (n ∷ ns) (suc i) h =
    append_assoc (number n) (numbers (take i ns)) (number (get_or ns i 0)) ∙ ap (λ l. number n ++ l) (more ns i (le_of_suc-le-suc h))

pub numbers_more : (ns : List ℕ) (i : ℕ) → i < length ns → numbers (take i ns) ++ number (get_or ns i 0) ≡ numbers (take (i + 1) ns)
numbers_more ns i h = rw add-one (more ns i h)

-- one pair more
more-pairs : (ss es : List ℕ) (i : ℕ) → i < length ss → i < length es
    → pairs (take i ss) (take i es) ++ (number (get_or ss i 0) ++ number (get_or es i 0)) ≡ pairs (take (suc i) ss) (take (suc i) es)
unfolding pairs
more-pairs [] es i h k = absurd (omega arith)
more-pairs (s ∷ ss) [] i h k = absurd (omega arith)
more-pairs (s ∷ ss) (e ∷ es) zero h k = sym (append-nil (number s ++ number e))
more-pairs (s ∷ ss) (e ∷ es) (suc i) h k =
    append_assoc (number s ++ number e) (pairs (take i ss) (take i es)) (number (get_or ss i 0) ++ number (get_or es i 0))
    ∙ ap (λ l. number s ++ number e ++ l) (more-pairs ss es i (le_of_suc-le-suc h) (le_of_suc-le-suc k))

pub pairs-more : (ss es : List ℕ) (i : ℕ) → i < length ss → i < length es
    → pairs (take i ss) (take i es) ++ (number (get_or ss i 0) ++ number (get_or es i 0)) ≡ pairs (take (i + 1) ss) (take (i + 1) es)
pairs-more ss es i h k = rw add-one (more-pairs ss es i h k)

-- blanked bytes are zeros, as many
pub blank-zeros : (bs : List ℕ) → map blank_byte bs ≡ replicate (length bs) 0
unfolding blank_byte
blank-zeros [] = refl
blank-zeros (b ∷ bs) = ap (λ l. 0 ∷ l) (blank-zeros bs)

-- of so many bytes at the front
pub zeros-for : (bs : List ℕ) (count n : ℕ) → n ≡ min count (length bs) → replicate n 0 ≡ map blank_byte (take count bs)
zeros-for bs count n e =
    sym (blank-zeros (take count bs) ∙ ap (λ (k : ℕ). replicate k 0) (length-take count bs ∙ sym e))

-- the first of many zeros
front : (m n : ℕ) → n ≤ m → take {A = ℕ} n (replicate m 0) ≡ replicate n 0
front m zero h = refl
front zero (suc n) h = absurd (omega arith)
front (suc m) (suc n) h = ap (λ l. 0 ∷ l) (front m n (le_of_suc-le-suc h))

pub zeros-front : (m n : ℕ) → n ≤ m → take {A = ℕ} (n - 0) (drop 0 (replicate m 0)) ≡ replicate n 0
zeros-front m n h = let all : n - 0 ≡ n = omega arith in ap (λ (k : ℕ). take {A = ℕ} k (replicate m 0)) all ∙ front m n h

-- a lent buffer keeps its length
pub lent_length : (n : ℕ) → length (map blank_byte (replicate n 0)) ≡ n
lent_length n = simp (length-map, length-replicate)

-- numbers that are equal have the same text
pub two-same : (a b c : ℕ) → b ≡ c → number a ++ number b ≡ number a ++ number c
two-same a b c e = ap (λ (k : ℕ). number a ++ number k) e

pub three-same : (a b c d e f : ℕ) → a ≡ d → b ≡ e → c ≡ f → number a ++ number b ++ number c ≡ number d ++ number e ++ number f
three-same a b c d e f p q r = rw (p, q, r)

pub write_same : (offsets : List ℕ) (date o o' v v' : ℕ) → o ≡ o' → v ≡ v'
    → number date ++ number o ++ number (blank_word offsets o v) ≡ number date ++ number o' ++ number (blank_word offsets o' v')
write_same offsets date o o' v v' e f =
    ap₂ (λ (x y : ℕ). number date ++ number x ++ number (blank_word offsets x y)) e f

module _ (offsets ns : List ℕ) (last : ℕ) (bs s : List ℕ) where
  -- blanking keeps the name
  pub name-kept : (n : Name) → entry_name (blanked_entry offsets (entry_of n ns last bs s)) ≡ n
  unfolding entry_name call_name machine_name blanked_entry blanked_asked blanked entry_of
  name-kept Setup = refl
  name-kept Read = refl
  name-kept Write = refl
  name-kept WriteRow = refl
  name-kept Receive = refl
  name-kept Wake = refl
  name-kept Watch = refl
  name-kept Reset = refl
  name-kept PowerDown = refl
  name-kept Clock = refl
  name-kept TakeTx = refl
  name-kept TakeWritten = refl
  name-kept HasLeft = refl
  name-kept HostPending = refl
  name-kept Figures = refl

  -- the words of a name that is known
  pub of-name : (n m : Name) → n ≡ m → (out : List ℕ) (at : ℕ) (after : List ℕ) (place : ℕ)
      → Puts (entry_words (blanked_entry offsets (entry_of m ns last bs s))) out at after place
      → Puts (entry_words (blanked_entry offsets (entry_of n ns last bs s))) out at after place
  of-name n m e out at after place p =
      subst (λ (k : Name). Puts (entry_words (blanked_entry offsets (entry_of k ns last bs s))) out at after place) (sym e) p

-- ---- how long a text can be

one-digit : (n : ℕ) → length (decimal_up_to zero n) ≡ 1
unfolding decimal_up_to
one-digit n = refl

digits-few : (more n : ℕ) → length (decimal_up_to more n) ≤ suc more
digits-few zero n = omega (arith, one-digit n)
digits-few (suc more) n =
    ⊎_elim
    (λ (k : 9 < n). rw (digits_more more n k, length-append) (omega (arith, digits-few more (n / 10))))
    (λ (k : n ≤ 9). rw (digits_last (suc more) n k) (omega arith))
    (side 9 n)

pub number-few : (n : ℕ) → length (number n) ≤ 21
number-few n = omega (arith, digits-few 19 n)

numbers-few : (ns : List ℕ) → length (numbers ns) ≤ 21 * length ns
unfolding numbers
numbers-few [] = omega arith
numbers-few (n ∷ ns) = rw length-append (omega (arith, number-few n, numbers-few ns))

two-few : (a b : ℕ) → length (number a ++ number b) ≤ 42
two-few a b = rw length-append (omega (arith, number-few a, number-few b))

three-few : (a b c : ℕ) → length (number a ++ number b ++ number c) ≤ 63
three-few a b c = rw length-append (omega (arith, two-few a b, number-few c))

hex-few : (bs : List ℕ) → length (hex_text bs) ≤ 2 * length bs + 1
unfolding hex_text
hex-few [] = omega arith
hex-few (b ∷ bs) = omega (arith, pairs-length (b ∷ bs))

bytes-few : (last : ℕ) (bs : List ℕ) → length bs ≤ 32768 → length (32 ∷ hex_text (map blank_byte (take last bs))) ≤ 65538
bytes-few last bs h =
    let some : length (map blank_byte (take last bs)) ≤ 32768 = simp (length-map, length-take) (omega arith) in
    omega (arith, hex-few (map blank_byte (take last bs)), some)

received-few : (now at last : ℕ) (bs : List ℕ) → length bs ≤ 32768
    → length (number now ++ number at ++ (32 ∷ hex_text (map blank_byte (take last bs)))) ≤ 65580
received-few now at last bs h = rw length-append (omega (arith, two-few now at, bytes-few last bs h))

row-few : (now last : ℕ) (bs : List ℕ) → length bs ≤ 32768 → length (number now ++ (32 ∷ hex_text (map blank_byte (take last bs)))) ≤ 65580
row-few now last bs h = rw length-append (omega (arith, number-few now, bytes-few last bs h))

pairs-few : (ss es : List ℕ) → length (pairs ss es) ≤ 42 * length ss
unfolding pairs
pairs-few [] es = omega arith
pairs-few (s ∷ ss) [] = omega arith
pairs-few (s ∷ ss) (e ∷ es) = rw (length-append, length-append) (omega (arith, number-few s, number-few e, pairs-few ss es))

-- frames that are not refused are at most 1,024
frames-few : (ss es : List ℕ) → length (pairs (blank_starts (figures_of ss es) ss) (blank_ends (figures_of ss es) es)) ≤ 65580
unfolding blank_starts blank_ends
frames-few ss es = by_result (result ss es)
  where
    by_result : {r : LineFigures} → Result ss es r → length (pairs (blank_starts r ss) (blank_ends r es)) ≤ 65580
    by_result (Result.refusal x) = omega (arith, pairs-few (1 ∷ []) (0 ∷ []))
    by_result (Result.done same few order) = omega (arith, pairs-few ss es)

sixteen-few : (ns : List ℕ) → length (take 16 ns) ≤ 16
sixteen-few ns = rw length-take (omega arith)

set-up-few : (os ws : List ℕ) → length (numbers (take 16 os) ++ numbers (blank_resets ws)) ≤ 672
unfolding blank_resets
set-up-few os ws =
    rw length-append (omega (arith, numbers-few (take 16 os), sixteen-few os, numbers-few (blank_resets ws)))

letters-few : (n : Name) → length (letters n) ≤ 12
letters-few Setup = omega arith
letters-few Read = omega arith
letters-few Write = omega arith
letters-few WriteRow = omega arith
letters-few Receive = omega arith
letters-few Wake = omega arith
letters-few Watch = omega arith
letters-few Reset = omega arith
letters-few PowerDown = omega arith
letters-few Clock = omega arith
letters-few TakeTx = omega arith
letters-few TakeWritten = omega arith
letters-few HasLeft = omega arith
letters-few HostPending = omega arith
letters-few Figures = omega arith

module _ (offsets ns : List ℕ) (last : ℕ) (bs s : List ℕ) (h : length bs ≤ 32768) where
  words-few : (n : Name) → length (entry_words (blanked_entry offsets (entry_of n ns last bs s))) ≤ 65580
  unfolding entry_words call_words machine_words blanked_entry blanked_asked blanked blank_written entry_of
  words-few Setup = omega (arith, set-up-few (map low_of (drop 0 ns)) (take 16 (map low_of (drop 16 ns))))
  words-few Read = omega (arith, two-few (get_or ns 0 0) (low_of (get_or ns 1 0)))
  words-few Write =
      omega (
        arith,
        three-few (get_or ns 0 0) (low_of (get_or ns 1 0))
            (blank_word offsets (low_of (get_or ns 1 0)) (low_of (get_or ns 2 0))),
      )
  words-few WriteRow = row-few (get_or ns 0 0) last bs h
  words-few Receive = received-few (get_or ns 0 0) (get_or ns 1 0) last bs h
  words-few Wake = omega (arith, number-few (get_or ns 0 0))
  words-few Watch = omega (arith, two-few (get_or ns 0 0) (bit_number (ltb 0 last)))
  words-few Reset = omega (arith, number-few (get_or ns 0 0))
  words-few PowerDown = omega (arith, number-few (get_or ns 0 0))
  words-few Clock = omega (arith, two-few (get_or ns 0 0) (get_or ns 1 0))
  words-few TakeTx = omega (arith, two-few (get_or ns 0 0) (length (map blank_byte (replicate last 0))))
  words-few TakeWritten = omega (arith, number-few (length (map blank_byte (replicate last 0))))
  words-few HasLeft = omega arith
  words-few HostPending = omega arith
  words-few Figures = frames-few (firsts_in s) (seconds_in s)

  -- a line's text is at most so long
  pub text-few : (n : Name) → length (entry_text (blanked_entry offsets (entry_of n ns last bs s))) ≤ 65593
  unfolding entry_text
  text-few n =
      let e = blanked_entry offsets (entry_of n ns last bs s) in
      rw (length-append, length-append) (omega (arith, letters-few (entry_name e), words-few n))
