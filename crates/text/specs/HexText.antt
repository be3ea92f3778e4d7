-- Hexadecimal text: bytes, and a word of 32 bits. Assumes nothing.
use Rattle.std.specs.Prelude.{◌≡◌, refl, List, [], ◌∷◌, ℕ, zero, suc, ◌+◌, ◌*◌, ◌/◌, ◌%◌, ◌^◌, ◌<◌, length, get_or, set}
use Rattle.std.proofs.Common.{ap, ap₂, sym, ◌∙◌, le_of_suc-le-suc, add-one, arith}
use Rattle.std.proofs.Math.Seq.{paste, paste-suc}
use Rattle.text.specs.Digits.{letter}

-- two digits for each byte
unfoldable pub hex_pairs : List ℕ → List ℕ
hex_pairs [] = []
hex_pairs (b ∷ s) = letter (b / 16) ∷ letter (b % 16) ∷ hex_pairs s

-- `-`, which is 45, for no bytes
unfoldable pub hex_text : List ℕ → List ℕ
hex_text [] = 45 ∷ []
hex_text (b ∷ s) = hex_pairs (b ∷ s)

-- the k-th hexadecimal digit from the right
abbrev pub hex_digit : ℕ → ℕ → ℕ
hex_digit k word = letter (word / 16 ^ k % 16)

-- `0x` and eight digits
abbrev pub hex_word : ℕ → List ℕ
hex_word w =
    48 ∷ 120 ∷ hex_digit 7 w ∷ hex_digit 6 w ∷ hex_digit 5 w ∷ hex_digit 4 w ∷ hex_digit 3 w ∷ hex_digit 2 w ∷ hex_digit 1 w ∷ hex_digit 0 w
    ∷ []

-- ---- laws

pub pairs-length : (s : List ℕ) → length (hex_pairs s) ≡ 2 * length s
unfolding hex_pairs
pairs-length [] = refl
pairs-length (b ∷ s) = omega (arith, pairs-length s)

-- the two digits of the i-th byte
pub pairs-high : (s : List ℕ) (i : ℕ) → i < length s → get_or (hex_pairs s) (2 * i) 0 ≡ letter (get_or s i 0 / 16)
unfolding hex_pairs
pairs-high [] i h = absurd (omega arith)
pairs-high (b ∷ s) zero h = refl
pairs-high (b ∷ s) (suc i) h =
    let e : 2 * suc i ≡ suc (suc (2 * i)) = omega arith in
    rw e (pairs-high s i (le_of_suc-le-suc h))

pub pairs-low : (s : List ℕ) (i : ℕ) → i < length s → get_or (hex_pairs s) (2 * i + 1) 0 ≡ letter (get_or s i 0 % 16)
unfolding hex_pairs
pairs-low [] i h = absurd (omega arith)
pairs-low (b ∷ s) zero h = refl
pairs-low (b ∷ s) (suc i) h =
    let e : 2 * suc i + 1 ≡ suc (suc (2 * i + 1)) = omega arith in
    rw e (pairs-low s i (le_of_suc-le-suc h))

-- one byte's digits more in the buffer
pub pairs-on : (s d out : List ℕ) (at i high low : ℕ) → i < length s → at + 2 * i + 1 < length d → out ≡ paste d at (hex_pairs s) (2 * i)
    → high ≡ letter (get_or s i 0 / 16) → low ≡ letter (get_or s i 0 % 16)
    → set (set out (at + 2 * i) high) (at + 2 * i + 1) low ≡ paste d at (hex_pairs s) (2 * (i + 1))
pairs-on s d out at i high low h room e eh el =
    let p = hex_pairs s in
    let len : length p ≡ 2 * length s = pairs-length s in
    let place : at + 2 * i + 1 ≡ at + (2 * i + 1) = omega arith in
    let two : suc (2 * i + 1) ≡ 2 * (i + 1) = omega arith in
    let one : set out (at + 2 * i) high ≡ paste d at p (2 * i + 1) =
    ap₂ (λ (l : List ℕ) (v : ℕ). set l (at + 2 * i) v) e (eh ∙ sym (pairs-high s i h))
    ∙ paste-suc d at p (2 * i) 0 (omega arith) (omega arith)
    ∙ ap (paste d at p) (sym (add-one (2 * i))) in
    ap₂ (λ (l : List ℕ) (v : ℕ). set l (at + 2 * i + 1) v) one (el ∙ sym (pairs-low s i h))
    ∙ ap (λ (k : ℕ). set (paste d at p (2 * i + 1)) k (get_or p (2 * i + 1) 0)) place
    ∙ paste-suc d at p (2 * i + 1) 0 (omega arith) (omega arith)
    ∙ ap (paste d at p) two

pub text-some : (s : List ℕ) → 0 < length s → hex_text s ≡ hex_pairs s
unfolding hex_text
text-some [] h = absurd (omega arith)
text-some (b ∷ s) h = refl

pub text-none : (s : List ℕ) → length s ≡ 0 → hex_text s ≡ 45 ∷ []
unfolding hex_text
text-none [] h = refl
text-none (b ∷ s) h = absurd (omega arith)
