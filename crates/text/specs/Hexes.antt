-- The bytes that a word spells: pairs of hexadecimal digits, or `-` for none. Assumes nothing.
use Rattle.std.specs.Prelude.{◌≡◌, refl, ℕ, suc, ◌+◌, ◌*◌, ◌/◌, ◌<◌, ◌≤◌, ltb, eqb, length, get_or, set, Result, Ok, Err}
use Rattle.std.proofs.Math.Path.{ap, sym}
use Rattle.std.proofs.Common.{◌∙◌, add-one, arith, length-drop, take-append-drop, drop-cons, drop-drop, drop-set-lt, length-take-le}
use Rattle.std.proofs.Common.{take-suc-set}
use mathlib.Core.List.{List, [], ◌∷◌, ◌++◌, append-nil}
use borrow.Author.Tests.{lt-ltb, le-ltb, eq-eqb, ne_eqb}
use Rattle.std.proofs.Math.ListN.{take, drop}
use Rattle.std.proofs.Math.Seq.{append_snoc}
use Rattle.text.specs.Pick.{pick}
use Rattle.text.specs.Digits.{digit_value}
use Rattle.text.specs.Same.{same_bytes}
use Rattle.text.specs.declared.hex.NotBytes.{NotBytes}
use Rattle.text.specs.declared.hex.NotBytes.TheVariants.{NoBytes, NoRoom}

-- the byte that two digits spell; 256 where one of them is no digit
unfoldable pub pair_value : ℕ → ℕ → ℕ
pair_value high low =
    pick (ltb 15 (digit_value high)) 256 (pick (ltb 15 (digit_value low)) 256 (16 * digit_value high + digit_value low))

-- the bytes of the pairs at the front, up to the first that is none
unfoldable pub spelled : List ℕ → List ℕ
spelled [] = []
spelled (high ∷ []) = []
spelled (high ∷ low ∷ s) = pick (ltb 255 (pair_value high low)) [] (pair_value high low ∷ spelled s)

-- the pairs are all of the word, or there is a fault
unfoldable pub pairs_read : List ℕ → Result ℕ NotBytes
pairs_read s = pick (eqb (2 * length (spelled s)) (length s)) (Ok (length (spelled s))) (Err NoBytes)

-- the bytes stand at the front of `to`
unfoldable pub pairs_stored : List ℕ → List ℕ → List ℕ
pairs_stored s to = spelled s ++ drop (length (spelled s)) to

abbrev pub dash : List ℕ
dash = 45 ∷ []

-- what reading a word into a buffer of a length answers
abbrev pub bytes_read : ℕ → List ℕ → Result ℕ NotBytes
bytes_read room s = pick (same_bytes s dash) (Ok 0) (pick (ltb room (length s / 2)) (Err NoRoom) (pairs_read s))

-- and what the buffer holds after
abbrev pub bytes_stored : List ℕ → List ℕ → List ℕ
bytes_stored s to = pick (same_bytes s dash) to (pick (ltb (length to) (length s / 2)) to (pairs_stored s to))

-- ---- laws

-- from a place on: a pair more, a pair that is none, and the end
module _ (s : List ℕ) (n b : ℕ) where
  two : 2 * n + 1 < length s → drop (2 * n) s ≡ get_or s (2 * n) 0 ∷ get_or s (2 * n + 1) 0 ∷ drop (2 * (n + 1)) s
  two h =
      let e : suc (2 * n) ≡ 2 * n + 1 = omega arith in
      let f : suc (2 * n + 1) ≡ 2 * (n + 1) = omega arith in
      drop-cons s (2 * n) 0 (omega arith)
      ∙ ap (λ (k : ℕ). get_or s (2 * n) 0 ∷ drop k s) e
      ∙ ap (λ (l : List ℕ). get_or s (2 * n) 0 ∷ l) (drop-cons s (2 * n + 1) 0 h)
      ∙ ap (λ (k : ℕ). get_or s (2 * n) 0 ∷ get_or s (2 * n + 1) 0 ∷ drop k s) f

  pub pair-on : 2 * n + 1 < length s → b ≡ pair_value (get_or s (2 * n) 0) (get_or s (2 * n + 1) 0) → b ≤ 255
      → spelled (drop (2 * n) s) ≡ b ∷ spelled (drop (2 * (n + 1)) s)
  unfolding spelled
  pair-on h e k = rw (two h, ← e, le-ltb 255 b k)

  pub no-pair : 2 * n + 1 < length s → b ≡ pair_value (get_or s (2 * n) 0) (get_or s (2 * n + 1) 0) → 255 < b → spelled (drop (2 * n) s)
      ≡ []
  unfolding spelled
  no-pair h e k = rw (two h, ← e, lt-ltb 255 b k)

short : (s : List ℕ) → length s ≤ 1 → spelled s ≡ []
unfolding spelled
short [] h = refl
short (c ∷ []) h = refl
short (c ∷ d ∷ s) h = absurd (omega arith)

pub pairs_end : (s : List ℕ) (n : ℕ) → length s ≤ 2 * n + 1 → spelled (drop (2 * n) s) ≡ []
pairs_end s n h = short (drop (2 * n) s) (omega (arith, length-drop (2 * n) s))

-- one byte more in the buffer
pub front-on : (s to rest : List ℕ) (n b : ℕ) → n < length to → spelled s ≡ take n to ++ (b ∷ rest)
    → spelled s ≡ take (n + 1) (set to n b) ++ rest
front-on s to rest n b h e =
    e ∙ sym (append_snoc (take n to) b rest) ∙ ap (λ (l : List ℕ). l ++ rest)
    (sym (take-suc-set to n b h) ∙ ap (λ (k : ℕ). take k (set to n b)) (sym (add-one n)))

pub back_on : (to was : List ℕ) (n b : ℕ) → drop n to ≡ drop n was → drop (n + 1) (set to n b) ≡ drop (n + 1) was
back_on to was n b e =
    drop-set-lt (n + 1) to n b (omega arith) ∙ sym (drop-drop 1 n to) ∙ ap (drop 1) e ∙ drop-drop 1 n was

-- where the first n bytes of a buffer are all that is spelled
module _ (s to was : List ℕ) (n : ℕ) (rest : List ℕ) (fits : n ≤ length to) (front : spelled s ≡ take n to ++ rest) (none : rest ≡ []) where
  all : spelled s ≡ take n to
  all = front ∙ ap (λ (l : List ℕ). take n to ++ l) none ∙ append-nil (take n to)

  count : length (spelled s) ≡ n
  count = ap length all ∙ length-take-le n to fits

  pub stored-front : drop n to ≡ drop n was → to ≡ pairs_stored s was
  unfolding pairs_stored
  stored-front back =
      sym (take-append-drop n to)
      ∙ ap (λ (l : List ℕ). take n to ++ l) back
      ∙ ap (λ (l : List ℕ). l ++ drop n was) (sym all)
      ∙ ap (λ (k : ℕ). spelled s ++ drop k was) (sym count)

  pub count-all : length s ≡ 2 * n → Ok n ≡ pairs_read s
  unfolding pairs_read
  count-all e = rw (count, eq-eqb (2 * n) (length s) (sym e))

  pub count-fault : (length s ≡ 2 * n → ⊥) → Err NoBytes ≡ pairs_read s
  unfolding pairs_read
  count-fault e = rw (count, ne_eqb (2 * n) (length s) (λ q. e (sym q)))
