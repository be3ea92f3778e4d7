-- Bytes that are put one after the other where there is room for all of them. Assumes nothing.
use Rattle.std.specs.Prelude.{◌≡◌, List, [], ◌++◌, ℕ, ◌+◌, ◌-◌, ◌≤◌, length, take, drop}
use Rattle.std.proofs.Common.{ap, sym, subst, ◌∙◌, append-nil, add-zero, arith, le-ltb, length-append, length-take, length-drop}
use Rattle.std.proofs.Common.{take-append-drop}
use Rattle.text.specs.Output.{stored, Put, put_all, put_both}

-- where there is room for the bytes, they are put
abbrev pub Puts : List ℕ → List ℕ → ℕ → List ℕ → ℕ → Type 0
Puts bs before at after place = at + length bs ≤ length before → Put bs before at after place

-- ---- laws

-- the same bytes, said in another way
pub put_same : (a b out : List ℕ) (at : ℕ) (after : List ℕ) (place : ℕ) → a ≡ b → Put a out at after place → Put b out at after place
put_same a b out at after place e p = subst (λ (l : List ℕ). Put l out at after place) e p

pub puts-same : (a b out : List ℕ) (at : ℕ) (after : List ℕ) (place : ℕ) → a ≡ b → Puts a out at after place → Puts b out at after place
puts-same a b out at after place e p = subst (λ (l : List ℕ). Puts l out at after place) e p

-- no bytes
pub put-nothing : (out : List ℕ) (at : ℕ) → Put [] out at out at
put-nothing out at =
    let same : stored out at [] ≡ out =
    ap (λ l. l ++ drop (at + 0) out) (append-nil (take at out))
    ∙ ap (λ (k : ℕ). take at out ++ drop k out) (add-zero at)
    ∙ take-append-drop at out in
    put_all [] out at out at (omega arith) (sym same) (omega arith)

-- bytes that are put leave the buffer's length, and the place is after them
module _ (bs out : List ℕ) (at : ℕ) (after : List ℕ) (place : ℕ) (room : at + length bs ≤ length out) (p : Put bs out at after place) where
  pub put-place : place ≡ at + length bs
  put-place = p.next ∙ rw (le-ltb (length out - at) (length bs) (omega arith))

  pub put-length : length after ≡ length out
  put-length =
      let e : after ≡ stored out at bs = p.bytes ∙ rw (le-ltb (length out - at) (length bs) (omega arith)) in
      ap length e ∙ simp (length-append, length-drop, length-take) (omega arith)

-- bytes, and then others after them
pub puts-both : (a b out : List ℕ) (at : ℕ) (mid : List ℕ) (place : ℕ) (after : List ℕ) (end : ℕ)
    → Puts a out at mid place → Puts b mid place after end → Puts (a ++ b) out at after end
puts-both a b out at mid place after end p q room =
    let all : at + length a + length b ≤ length out = omega (arith, room, length-append a b) in
    let first : Put a out at mid place = p (omega arith) in
    let len = put-length a out at mid place (omega arith) first in
    let next = put-place a out at mid place (omega arith) first in
    put_both a b out at mid place after end all first (q (omega (arith, len, next)))
