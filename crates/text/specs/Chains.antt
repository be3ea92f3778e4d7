-- Texts put one after the other. Assumes nothing.
use Rattle.std.specs.Prelude.{◌≡◌, List, [], ◌++◌, ℕ, ◌+◌, ◌-◌, ◌≤◌, length, take, drop}
use Rattle.std.proofs.Common.{ap, sym, subst, ◌∙◌, append-nil, add-zero, arith, le-ltb, length-append, length-take, length-drop}
use Rattle.std.proofs.Common.{take-append-drop}
use Rattle.text.specs.Output.{stored, Put, put_all, put_both}

-- a buffer has room for a text from a place on
pub record Room (text out : List ℕ) (at : ℕ) : Type 0 where
  pub fits : at + length text ≤ length out

-- a text is put where there is room for all of it
abbrev pub Puts : List ℕ → List ℕ → ℕ → List ℕ → ℕ → Type 0
Puts text before at after place = Room text before at → Put text before at after place

-- ---- laws

module _ {a before : List ℕ} {at : ℕ} {after : List ℕ} {place : ℕ} (p : Put a before at after place) (room : Room a before at) where
  -- the buffer keeps its length, and the place is after the text
  pub put-bytes : after ≡ stored before at a
  put-bytes = p.bytes ∙ rw (le-ltb (length before - at) (length a) (omega arith))

  pub put-place : place ≡ at + length a
  put-place = p.next ∙ rw (le-ltb (length before - at) (length a) (omega arith))

  pub put-length : length after ≡ length before
  put-length = ap length put-bytes ∙ simp (length-append, length-drop, length-take) (omega arith)

-- room for two texts is room for the first, and then for the second
pub room-first : {a : List ℕ} (b : List ℕ) {out : List ℕ} {at : ℕ} → Room (a ++ b) out at → Room a out at
room-first {a} b room = record { fits = omega (arith, length-append a b) }

module _ {a out : List ℕ} {at : ℕ} {mid : List ℕ} {place : ℕ} (p : Puts a out at mid place) where
  pub room_after : {b : List ℕ} → Room (a ++ b) out at → Room b mid place
  room_after {b} room =
      let first = room-first b room in
      record { fits = omega (arith, length-append a b, put-length (p first) first, put-place (p first) first) }

  -- both are one text
  pub and_then : {b after : List ℕ} {end : ℕ} → Puts b mid place after end → Puts (a ++ b) out at after end
  and_then {b} {after} {end} q room =
      put_both a b out at mid place after end (omega (arith, length-append a b)) (p (room-first b room)) (q (room_after room))

-- nothing is put
pub put-nothing : (out : List ℕ) (at : ℕ) → Puts [] out at out at
put-nothing out at room =
    put_all [] out at out at (omega arith)
    (sym (ap (λ (l : List ℕ). l ++ drop (at + 0) out) (append-nil (take at out))
    ∙ ap (λ (k : ℕ). take at out ++ drop k out) (add-zero at)
    ∙ take-append-drop at out))
    (sym (add-zero at))

-- the text of a value, by what the value is found to be
module _ {X : Type 0} (text : X → List ℕ) {x y : X} (e : x ≡ y) where
  pub put_of : {before : List ℕ} {at : ℕ} {after : List ℕ} {place : ℕ} → Put (text y) before at after place
      → Put (text x) before at after place
  put_of {before} {at} {after} {place} p = subst (λ (z : X). Put (text z) before at after place) (sym e) p

  pub puts_of : {before : List ℕ} {at : ℕ} {after : List ℕ} {place : ℕ} → Puts (text y) before at after place
      → Puts (text x) before at after place
  puts_of {before} {at} {after} {place} p = subst (λ (z : X). Puts (text z) before at after place) (sym e) p

  pub room_of : {before : List ℕ} {at : ℕ} → Room (text x) before at → Room (text y) before at
  room_of {before} {at} p = subst (λ (z : X). Room (text z) before at) e p
