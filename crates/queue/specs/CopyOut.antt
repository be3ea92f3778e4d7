-- A queue copied out in order: its elements are a straight run before the end of the slots and one after it, and two plain
-- copies put them at the front of a buffer. Assumes nothing.
use Rattle.std.specs.Prelude.{◌≡◌, length, take, drop}
use Rattle.std.proofs.Math.Path.{ap, ap₂}
use Rattle.std.proofs.Common.{sym, ◌∙◌, length-drop, drop_of_length-le, length-take-le, take_all, take_at, drop_at, drop-drop}
use mathlib.Core.List.{List, [], ◌++◌, append-nil, append_assoc}
use Prim.Native.Nat.{ℕ, ◌+◌, ◌-◌, ◌≤◌}
use native.Mathlib.Omega.{arith}
use Rattle.std.proofs.Math.ListN.{get_or}
use Rattle.std.proofs.Math.Seq.{paste, drop-append-add}
use Rattle.queue.specs.Slots.{before, wrap-in, wrap-over}
use Rattle.queue.specs.Listed.{listed, listed_same, listed-add, listed-part}
use Rattle.queue.specs.Cursors.{Held, slot_of, nth_of, elems}
use Rattle.queue.specs.Laws.{elems-length}
use Rattle.queue.specs.declared.Cursor.{Cursor}

module _ {A : Type 0} (d : A) (cap : ℕ) (s : List A) (c : Cursor) (long : length s ≡ cap) (h : Held cap c) where
  -- the two straight runs
  pub two_runs : elems (slot_of s d) cap c ≡ take (before cap c.start c.count) (drop c.start s)
      ++ take (c.count - before cap c.start c.count) s
  unfolding elems
  two_runs =
      let k = before cap c.start c.count in
      let m = c.count - k in
      let f : ℕ → A = λ i. get_or s (nth_of cap i c) d in
      let e : c.count ≡ k + m = omega arith in
      ap (listed f) e ∙ listed-add f k m
      ∙ ap₂ (λ (l r : List A). l ++ r)
      (listed_same f (λ i. get_or s (c.start + i) d) k (λ i b. ap (λ (j : ℕ). get_or s j d) (wrap-in (c.start + i) cap (omega arith)))
      ∙ listed-part s d c.start k (omega arith))
      (listed_same (λ i. f (k + i)) (λ i. get_or s (0 + i) d) m
      (λ i b. ap (λ (j : ℕ). get_or s j d) (wrap-over (c.start + (k + i)) cap (omega arith) ∙ omega arith))
      ∙ listed-part s d 0 m (omega arith))

  -- the two copies of `copy_out`: from the start up to the end of the slots, and then from slot 0
  pub copied-out : (out : List A) → c.count ≤ length out → {k : ℕ} {t u : List A} → k ≡ before cap c.start c.count
      → t ≡ paste out 0 (drop c.start s) k → u ≡ paste t k s (c.count - k) → u ≡ elems (slot_of s d) cap c ++ drop c.count out
  copied-out out room {k} {t} first copy then =
      then
      ∙ ap (λ (r : List A). paste r k s m) copy
      ∙ ap₂ (λ (a b : List A). a ++ take m s ++ b) front rest
      ∙ ap (λ (j : ℕ). take j (drop c.start s) ++ take (c.count - j) s ++ drop c.count out) first
      ∙ ap (λ (r : List A). r ++ drop c.count out) (sym two_runs)
    where
      m : ℕ
      m = c.count - k

      run : List A
      run = take k (drop c.start s)

      l : length run ≡ k
      l = length-take-le k (drop c.start s) (rw (length-drop c.start s) (omega arith))

      front : take k (run ++ drop (0 + k) out) ≡ run
      front = take_at run (drop (0 + k) out) k l

      rest : drop (k + m) (run ++ drop (0 + k) out) ≡ drop c.count out
      rest =
          let e : k + m ≡ length run + m = omega (arith, l) in
          let n : 0 + k + m ≡ c.count = omega arith in
          ap (λ (j : ℕ). drop j (run ++ drop (0 + k) out)) e
          ∙ drop-append-add run (drop (0 + k) out) m
          ∙ drop-drop m (0 + k) out
          ∙ ap (λ (j : ℕ). drop j out) n

-- A second queue copied out into the part of the buffer after the first: t is the buffer after the first copy, which gave
-- `at`, p that part after the second one, and u the buffer with it.
pub copied-after : {A : Type 0} (d : A) (cap cap' : ℕ) (s s' : List A) (c c' : Cursor) (out : List A) → {at : ℕ} {t p u : List A}
    → at ≡ c.count → t ≡ elems (slot_of s d) cap c ++ drop c.count out
    → p ≡ elems (slot_of s' d) cap' c' ++ drop c'.count (take (length t - at) (drop at t))
    → u ≡ take at t ++ (p ++ drop (length t - at) (drop at t))
    → u ≡ elems (slot_of s d) cap c ++ elems (slot_of s' d) cap' c' ++ drop (c.count + c'.count) out
copied-after {A} d cap cap' s s' c c' out {at} {t} {p} here first part whole =
    let xs : List A = elems (slot_of s d) cap c in
    let ys : List A = elems (slot_of s' d) cap' c' in
    let tail : List A = drop (c.count + c'.count) out in
    let k = length t - at in
    let la : length xs ≡ at = elems-length (slot_of s d) cap c ∙ sym here in
    let lr : length (drop at t) ≡ k = length-drop at t in
    let front : take at t ≡ xs = ap (take at) first ∙ take_at xs (drop c.count out) at la in
    let rest : drop at t ≡ drop c.count out = ap (drop at) first ∙ drop_at xs (drop c.count out) at la in
    let lent : take k (drop at t) ≡ drop c.count out = take_all k (drop at t) (omega arith) ∙ rest in
    let past : drop k (drop at t) ≡ [] = drop_of_length-le (drop at t) {i = k} (omega arith) in
    let second : p ≡ ys ++ tail = part ∙ ap (λ (l : List A). ys ++ drop c'.count l) lent
    ∙ ap (λ (l : List A). ys ++ l) (drop-drop c'.count c.count out) in
    whole
    ∙ ap₂ (λ (a b : List A). a ++ b) front (ap₂ (λ (a b : List A). a ++ b) second past ∙ append-nil (ys ++ tail))
    ∙ sym (append_assoc xs ys tail)
