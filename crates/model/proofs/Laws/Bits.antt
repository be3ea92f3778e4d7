-- Bits of a word: of an and, an or, a power of two, and of a word whose bits a mask clears. Assumes nothing.
use Rattle.std.specs.Prelude.{◌≡◌, refl, ℕ, zero, suc, ◌-◌, ◌*◌, ◌/◌, ◌%◌, ◌^◌, ◌<◌, Bool, ◌&&◌, ◌||◌, not, eqb}
use Rattle.std.proofs.Common.{sym, ap, ◌∙◌, pow-suc, mul_comm, mul-div_cancel, div-one, mod-lt, zero-lt-suc, arith}
use Rattle.std.proofs.Math.Nat.{mul-mod_left, div-div-eq-div-mul, zero-div}
use Rattle.std.proofs.Math.Dec.{eqb-zero-suc, eqb-suc-zero, eqb-suc-suc}
use Rattle.std.specs.Int.Bits.{bit_and, bit_or}
use Rattle.std.proofs.lemmas.Nat.{and_shr, or_shr, and_mod, or_mod}
use Rattle.model.specs.Numbers.{bit, without}

-- ---- digits

digit_and : (x y : ℕ) → x < 2 → y < 2 → eqb (bit_and x y) 1 ≡ (eqb x 1 && eqb y 1)
digit_and zero zero h l = refl
digit_and zero (suc zero) h l = refl
digit_and (suc zero) zero h l = refl
digit_and (suc zero) (suc zero) h l = refl
digit_and zero (suc (suc y)) h l = absurd (omega arith)
digit_and (suc zero) (suc (suc y)) h l = absurd (omega arith)
digit_and (suc (suc x)) y h l = absurd (omega arith)

digit_or : (x y : ℕ) → x < 2 → y < 2 → eqb (bit_or x y) 1 ≡ (eqb x 1 || eqb y 1)
digit_or zero zero h l = refl
digit_or zero (suc zero) h l = refl
digit_or (suc zero) zero h l = refl
digit_or (suc zero) (suc zero) h l = refl
digit_or zero (suc (suc y)) h l = absurd (omega arith)
digit_or (suc zero) (suc (suc y)) h l = absurd (omega arith)
digit_or (suc (suc x)) y h l = absurd (omega arith)

digit_not : (x : ℕ) → x < 2 → eqb (1 - x) 1 ≡ not (eqb x 1)
digit_not zero h = refl
digit_not (suc zero) h = refl
digit_not (suc (suc x)) h = absurd (omega arith)

even-or-odd : (n : ℕ) → n % 2 < 2
even-or-odd n = mod-lt n (zero-lt-suc 1)

-- ---- and, or

pub bit-and : (n a b : ℕ) → bit n (bit_and a b) ≡ (bit n a && bit n b)
bit-and n a b =
    ap (λ (x : ℕ). eqb (x % 2) 1) (and_shr a b n) ∙ ap (λ (x : ℕ). eqb x 1) (and_mod (a / 2 ^ n) (b / 2 ^ n) 1)
    ∙ digit_and (a / 2 ^ n % 2) (b / 2 ^ n % 2) (even-or-odd (a / 2 ^ n)) (even-or-odd (b / 2 ^ n))

pub bit-or : (n a b : ℕ) → bit n (bit_or a b) ≡ (bit n a || bit n b)
bit-or n a b =
    ap (λ (x : ℕ). eqb (x % 2) 1) (or_shr a b n) ∙ ap (λ (x : ℕ). eqb x 1) (or_mod (a / 2 ^ n) (b / 2 ^ n) 1)
    ∙ digit_or (a / 2 ^ n % 2) (b / 2 ^ n % 2) (even-or-odd (a / 2 ^ n)) (even-or-odd (b / 2 ^ n))

-- ---- one bit

-- bit n + 1 of a word is bit n of its half
halved : (x n : ℕ) → x / 2 ^ suc n ≡ x / 2 / 2 ^ n
halved x n = ap (λ (k : ℕ). x / k) (pow-suc 2 n ∙ mul_comm (2 ^ n) 2) ∙ sym (div-div-eq-div-mul x 2 (2 ^ n))

half_pow : (m : ℕ) → 2 ^ suc m / 2 ≡ 2 ^ m
half_pow m = ap (λ (x : ℕ). x / 2) (pow-suc 2 m) ∙ mul-div_cancel (2 ^ m) (zero-lt-suc 1)

pub bit-power : (n m : ℕ) → bit n (2 ^ m) ≡ eqb n m
bit-power zero zero = refl
bit-power zero (suc m) =
    ap (λ (x : ℕ). eqb (x % 2) 1) (div-one (2 ^ suc m)) ∙ ap (λ (x : ℕ). eqb (x % 2) 1) (pow-suc 2 m)
    ∙ ap (λ (x : ℕ). eqb x 1) (mul-mod_left (2 ^ m) 2) ∙ sym (eqb-zero-suc m)
bit-power (suc n) zero = ap (λ (x : ℕ). eqb (x % 2) 1) (halved 1 n ∙ zero-div (2 ^ n)) ∙ sym (eqb-suc-zero n)
bit-power (suc n) (suc m) =
    ap (λ (x : ℕ). eqb (x % 2) 1) (halved (2 ^ suc m) n ∙ ap (λ (x : ℕ). x / 2 ^ n) (half_pow m)) ∙ bit-power n m ∙ sym (eqb-suc-suc n m)

pub bit-raised : (n a m : ℕ) → bit n (bit_or a (2 ^ m)) ≡ (bit n a || eqb n m)
bit-raised n a m = bit-or n a (2 ^ m) ∙ ap (λ (t : Bool). bit n a || t) (bit-power n m)

-- ---- the bits that a mask leaves

complement_low : (m v : ℕ) → v < m * 2 → (m * 2 - 1 - v) % 2 ≡ 1 - v % 2
complement_low m v h = omega arith

complement_half : (m v : ℕ) → v < m * 2 → (m * 2 - 1 - v) / 2 ≡ m - 1 - v / 2
complement_half m v h = omega arith

half-below : (m v : ℕ) → v < m * 2 → v / 2 < m
half-below m v h = omega arith

-- digit n of the other digits of v, among k
complement : (n k v : ℕ) → n < k → v < 2 ^ k → (2 ^ k - 1 - v) / 2 ^ n % 2 ≡ 1 - v / 2 ^ n % 2
complement n zero v h l = absurd (omega arith)
complement zero (suc k) v h l =
    ap (λ (x : ℕ). x % 2) (div-one (2 ^ suc k - 1 - v)) ∙ ap (λ (x : ℕ). (x - 1 - v) % 2) (pow-suc 2 k)
    ∙ complement_low (2 ^ k) v (rw pow-suc at l) ∙ ap (λ (x : ℕ). 1 - x % 2) (sym (div-one v))
complement (suc n) (suc k) v h l =
    let b : v < 2 ^ k * 2 = rw pow-suc at l in
    ap (λ (x : ℕ). x % 2) (halved (2 ^ suc k - 1 - v) n)
    ∙ ap (λ (x : ℕ). (x - 1 - v) / 2 / 2 ^ n % 2) (pow-suc 2 k)
    ∙ ap (λ (x : ℕ). x / 2 ^ n % 2) (complement_half (2 ^ k) v b)
    ∙ complement n k (v / 2) (omega arith) (half-below (2 ^ k) v b)
    ∙ ap (λ (x : ℕ). 1 - x % 2) (sym (halved v n))

-- of a 32-bit word's bits exactly those of the mask go
pub bit-without : (n mask word : ℕ) → n < 32 → mask < 2 ^ 32 → bit n (without mask word) ≡ (bit n word && not (bit n mask))
bit-without n mask word h l =
    bit-and n word (2 ^ 32 - 1 - mask)
    ∙ ap (λ (x : ℕ). bit n word && eqb x 1) (complement n 32 mask h l)
    ∙ ap (λ (t : Bool). bit n word && t) (digit_not (mask / 2 ^ n % 2) (even-or-odd (mask / 2 ^ n)))
