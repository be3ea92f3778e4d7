-- Bytes put into a buffer from a place on. Assumes nothing.
use Rattle.std.specs.Prelude.{◌≡◌, Bool, List, ◌++◌, ℕ, ◌+◌, ◌-◌, ◌<◌, ◌≤◌, ltb, length, take, drop}
use Rattle.std.proofs.Common.{ap, ap₂, sym, ◌∙◌, append_assoc, arith, lt-ltb, le-ltb, length-append, length-take, length-drop, drop-drop}
use Rattle.std.proofs.Common.{length-take-le, take_at}
use Rattle.std.proofs.Math.Seq.{drop-append-add}
use Rattle.text.specs.Pick.{pick}

-- the bytes stand from `at` on, and all other bytes are kept
abbrev pub stored : List ℕ → ℕ → List ℕ → List ℕ
stored out at bs = take at out ++ bs ++ drop (at + length bs) out

-- the bytes are more than there is room for
abbrev pub no_room : List ℕ → ℕ → List ℕ → Bool
no_room out at bs = ltb (length out - at) (length bs)

-- bytes that fit are stored and the place is after them; others change nothing and the place stays
pub record Put (bs before : List ℕ) (at : ℕ) (after : List ℕ) (place : ℕ) : Type 0 where
  pub bytes : after ≡ pick (no_room before at bs) before (stored before at bs)
  pub next : place ≡ pick (no_room before at bs) at (at + length bs)

-- ---- laws

pub put-none : (bs out : List ℕ) (at : ℕ) → length out - at < length bs → Put bs out at out at
put-none bs out at h =
    record { bytes = rw (lt-ltb (length out - at) (length bs) h); next = rw (lt-ltb (length out - at) (length bs) h) }

pub put_all : (bs out : List ℕ) (at : ℕ) (after : List ℕ) (place : ℕ)
    → length bs ≤ length out - at → after ≡ stored out at bs → place ≡ at + length bs → Put bs out at after place
put_all bs out at after place h e p =
    record { bytes = rw (le-ltb (length out - at) (length bs) h) e; next = rw (le-ltb (length out - at) (length bs) h) p }

-- one after the other
stored-twice : (out a b : List ℕ) (at : ℕ) → at ≤ length out → stored (stored out at a) (at + length a) b ≡ stored out at (a ++ b)
stored-twice out a b at h =
    let p = take at out ++ a in
    let len : length p ≡ at + length a = length-append (take at out) a ∙ ap (λ (k : ℕ). k + length a) (length-take-le at out h) in
    let far : at + length a + length b ≡ at + length (a ++ b) = simp length-append (omega arith) in
    ap (λ (l : List ℕ). l ++ b ++ drop (at + length a + length b) (p ++ drop (at + length a) out))
    (take_at p (drop (at + length a) out) (at + length a) len)
    ∙ ap (λ (k : ℕ). p ++ b ++ drop (k + length b) (p ++ drop (at + length a) out)) (sym len)
    ∙ ap (λ (l : List ℕ). p ++ b ++ l) (drop-append-add p (drop (at + length a) out) (length b) ∙ drop-drop (length b) (at + length a) out)
    ∙ ap (λ (l : List ℕ). l ++ drop (at + length a + length b) out) (append_assoc (take at out) a b)
    ∙ ap (λ (k : ℕ). take at out ++ (a ++ b) ++ drop k out) far

stored-length : (out a : List ℕ) (at : ℕ) → at + length a ≤ length out → length (stored out at a) ≡ length out
stored-length out a at h =
    simp (length-append, length-drop, length-take) (omega arith)

-- bytes, and then others after them, are both put where there is room for both
pub put_both : (a b out : List ℕ) (at : ℕ) (mid : List ℕ) (place : ℕ) (after : List ℕ) (end : ℕ)
    → at + length a + length b ≤ length out → Put a out at mid place → Put b mid place after end → Put (a ++ b) out at after end
put_both a b out at mid place after end room p q =
    let e : mid ≡ stored out at a = p.bytes ∙ rw (le-ltb (length out - at) (length a) (omega arith)) in
    let f : place ≡ at + length a = p.next ∙ rw (le-ltb (length out - at) (length a) (omega arith)) in
    let len : length mid ≡ length out = ap length e ∙ stored-length out a at (omega arith) in
    let g : after ≡ stored mid place b = q.bytes ∙ rw (le-ltb (length mid - place) (length b) (omega arith)) in
    let h : end ≡ place + length b = q.next ∙ rw (le-ltb (length mid - place) (length b) (omega arith)) in
    put_all (a ++ b) out at after end (simp length-append (omega arith))
    (g ∙ ap₂ (λ (l : List ℕ) (k : ℕ). stored l k b) e f ∙ stored-twice out a b at (omega arith))
    (simp length-append (omega arith))
