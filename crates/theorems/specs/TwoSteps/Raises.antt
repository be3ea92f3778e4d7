-- Bits that rise in a word where a test passes: in whatever order, and once where a later rise of the same bit is sure.
-- Assumes nothing.
use Rattle.std.specs.Prelude.{◌≡◌, refl, ℕ, ◌+◌, ◌*◌, ◌/◌, ◌%◌, ◌^◌, max, Bool, true, false, ◌||◌}
use Rattle.std.proofs.Common.{sym, ap, ap₂, ◌∙◌, arith}
use Rattle.std.proofs.lemmas.Bool.{false≢true}
use Rattle.std.proofs.Math.Arith.{bin_ind}
use Rattle.std.specs.Int.Bits.{bit_or, or_step, or_self}
use Rattle.std.proofs.lemmas.Nat.{or_comm, or_shr}
use Rattle.model.specs.Numbers.{choose}
use Rattle.model.proofs.Laws.Choose.{choose-nat}

-- ---- the or of words

or-odd : (a b : ℕ) → bit_or a b % 2 ≡ max (a % 2) (b % 2)
or-odd a b = omega (arith, or_step a b)

digits-assoc : (n b c x y : ℕ) → x % 2 ≡ max (n % 2) (b % 2) → y % 2 ≡ max (b % 2) (c % 2) → max (x % 2) (c % 2) ≡ max (n % 2) (y % 2)
digits-assoc n b c x y p q = omega arith

or_assoc : (a b c : ℕ) → bit_or (bit_or a b) c ≡ bit_or a (bit_or b c)
or_assoc =
    bin_ind (λ (n : ℕ). (b c : ℕ) → bit_or (bit_or n b) c ≡ bit_or n (bit_or b c)) (λ b c. refl)
    (λ n ih b c.
    or_step (bit_or n b) c
    ∙ ap₂ (λ (x y : ℕ). x * 2 + y)
    (ap (λ (x : ℕ). bit_or x (c / 2)) (or_shr n b 1) ∙ ih (b / 2) (c / 2) ∙ ap (λ (x : ℕ). bit_or (n / 2) x) (sym (or_shr b c 1)))
    (digits-assoc n b c (bit_or n b) (bit_or b c) (or-odd n b) (or-odd b c))
    ∙ sym (or_step n (bit_or b c)))

or_swap : (a b c : ℕ) → bit_or (bit_or a b) c ≡ bit_or (bit_or a c) b
or_swap a b c = or_assoc a b c ∙ ap (λ (x : ℕ). bit_or a x) (or_comm b c) ∙ sym (or_assoc a c b)

or-again : (a b : ℕ) → bit_or (bit_or a b) b ≡ bit_or a b
or-again a b = or_assoc a b b ∙ ap (λ (x : ℕ). bit_or a x) (or_self b)

-- ---- rises

-- what `raise_if` does to INT_RAW
abbrev pub raises : Bool → ℕ → ℕ → ℕ
raises t n x = choose t (bit_or x (2 ^ n)) x

-- bits that were set before stay beside it
pub raises-free : (t : Bool) (n x k : ℕ) → raises t n (bit_or x k) ≡ bit_or (raises t n x) k
raises-free t n x k = choose-nat (λ (y : ℕ). bit_or y k) t (or_swap x k (2 ^ n)) refl

pub raises-swap : (t r : Bool) (n k x : ℕ) → raises t n (raises r k x) ≡ raises r k (raises t n x)
raises-swap t r n k x = choose-nat (raises r k) t (sym (raises-free r k x (2 ^ n))) refl

-- two rises of one bit
pub raises-both : (t r : Bool) (n x : ℕ) → raises r n (raises t n x) ≡ raises (t || r) n x
unfolding choose
raises-both true true n x = or-again x (2 ^ n)
raises-both true false n x = refl
raises-both false r n x = refl

-- a rise adds nothing where the next is sure
pub raises-within : (t r : Bool) (n x : ℕ) → (t ≡ true → r ≡ true) → raises r n (raises t n x) ≡ raises r n x
unfolding choose
raises-within true true n x h = or-again x (2 ^ n)
raises-within true false n x h = absurd (false≢true (h refl))
raises-within false r n x h = refl
