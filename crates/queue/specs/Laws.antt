-- The laws of a queue, once for every capacity and every type of element: each change of a cursor is one of its list.
-- Assumes nothing.
use Rattle.std.specs.Prelude.{◌≡◌, ◌≢◌, length, drop, get_or}
use Rattle.std.proofs.Math.Path.{refl, ap}
use Rattle.std.proofs.Common.{sym, ◌∙◌, ⊎_elim, add-zero}
use mathlib.Core.List.{List, [], ◌∷◌, ◌++◌, map}
use Prim.Native.Nat.{ℕ, zero, suc, ◌+◌, ◌-◌, ◌<◌, ◌≤◌, min}
use native.Mathlib.Omega.{arith}
use Rattle.std.proofs.Math.ListN.{take}
use Rattle.queue.specs.Slots.{side, wrap-in, wrap-low, wrap-apart, wrap-on}
use Rattle.queue.specs.Listed.{listed, length-listed, listed_same, listed_suc, get_d-listed, take-listed, map-listed}
use Rattle.queue.specs.Cursors.{Held, nth_of, last_of, back_of, elems, empty, pushed_by, popped, cut_to_one}
use Rattle.queue.specs.declared.Cursor.{Cursor}

-- ---- what a list depends on

-- Two queues hold the same list where they hold the same elements in order: what stands in other slots and where each
-- starts in its slots does not show.
pub elems-same : {A : Type 0} (f g : ℕ → A) (cap cap' : ℕ) (c c' : Cursor) → c.count ≡ c'.count
    → ((i : ℕ) → i < c.count → f (nth_of cap i c) ≡ g (nth_of cap' i c')) → elems f cap c ≡ elems g cap' c'
unfolding elems
elems-same {A} f g cap cap' c c' long same =
    listed_same (λ i. f (nth_of cap i c)) (λ i. g (nth_of cap' i c')) c.count same ∙ ap (listed (λ i. g (nth_of cap' i c'))) long

-- a function of each element: the bytes of a queue of dated bytes
pub map-elems : {A B : Type 0} (h : A → B) (f : ℕ → A) (cap : ℕ) (c : Cursor) → map h (elems f cap c) ≡ elems (λ i. h (f i)) cap c
unfolding elems
map-elems h f cap c = map-listed h (λ i. f (nth_of cap i c)) c.count

-- ---- which slots there are

module _ (cap : ℕ) (c : Cursor) (h : Held cap c) where
  -- the n-th place has a slot, up to a whole round on
  pub nth-low : (n : ℕ) → n ≤ cap → nth_of cap n c < cap
  nth-low n few = wrap-low (c.start + n) cap (omega arith)

  -- so has the last element
  pub last-low : last_of cap c < cap
  last-low = nth-low (c.count - 1) (omega arith)

  -- and the next one, which in a full queue is the first's
  pub back_low : back_of cap c < cap
  back_low = nth-low c.count h.few

  -- the first element stands at the start
  pub first_slot : nth_of cap 0 c ≡ c.start
  first_slot = rw (add-zero c.start) (wrap-in c.start cap h.low)

  -- two elements never share a slot, nor do an element and the slot for the next
  pub nth-apart : (i n : ℕ) → i < n → n < cap → nth_of cap i c ≢ nth_of cap n c
  nth-apart i n less few = wrap-apart (c.start + i) (c.start + n) cap (omega arith) (omega arith) (omega arith)

-- ---- the cursor stays within its slots

-- an empty one
pub empty-held : (cap : ℕ) → 0 < cap → Held cap empty
empty-held cap pos = record { low = pos; few = omega arith }

module _ (cap : ℕ) (c : Cursor) (h : Held cap c) where
  -- after a push of one or several, where there is room
  pub push-held : (n : ℕ) → c.count + n ≤ cap → Held cap (pushed_by n c)
  push-held n room = record { low = h.low; few = room }

  -- after a pop
  pub pop-held : Held cap (popped cap c)
  pop-held = record { low = wrap-low (c.start + 1) cap (omega arith); few = omega arith }

  -- after a cut to one
  pub cut-held : Held cap (cut_to_one c)
  cut-held = record { low = h.low; few = omega arith }

-- ---- the list of a cursor, and after each change

-- clear: an empty queue holds nothing, whatever stands in its slots
pub empty-elems : {A : Type 0} (f : ℕ → A) (cap : ℕ) → elems f cap empty ≡ []
unfolding elems listed
empty-elems f cap = refl

module _ {A : Type 0} (f : ℕ → A) (cap : ℕ) (c : Cursor) where
  -- as many as the count says
  pub elems-length : length (elems f cap c) ≡ c.count
  unfolding elems
  elems-length = length-listed (λ i. f (nth_of cap i c)) c.count

  -- none, where the count is 0
  pub elems-none : c.count ≡ 0 → elems f cap c ≡ []
  unfolding elems listed
  elems-none e = ap (listed (λ i. f (nth_of cap i c))) e

  -- the n-th, from 0
  pub elems-nth : (n : ℕ) (d : A) → n < c.count → get_or (elems f cap c) n d ≡ f (nth_of cap n c)
  unfolding elems
  elems-nth n d low = get_d-listed (λ i. f (nth_of cap i c)) c.count n d low

  -- the last, after the others
  pub elems-last : 0 < c.count → elems f cap c ≡ take (c.count - 1) (elems f cap c) ++ (f (last_of cap c) ∷ [])
  unfolding elems
  elems-last pos =
      let e : c.count ≡ suc (c.count - 1) = omega arith in
      let g : ℕ → A = λ i. f (nth_of cap i c) in
      ap (listed g) e ∙ listed_suc g (c.count - 1)
      ∙ ap (λ (l : List A). l ++ (f (last_of cap c) ∷ [])) (sym (take-listed g c.count (c.count - 1) (omega arith)))

  -- cut to one: the first alone is left
  pub cut-elems : elems f cap (cut_to_one c) ≡ take 1 (elems f cap c)
  unfolding elems listed
  cut-elems = by_count c.count
    where
      by_count : (n : ℕ) → listed (λ i. f (nth_of cap i c)) (min n 1) ≡ take 1 (listed (λ i. f (nth_of cap i c)) n)
      by_count zero = refl
      by_count (suc n) =
          let e : min (suc n) 1 ≡ 1 = omega arith in
          ap (listed (λ i. f (nth_of cap i c))) e

module _ {A : Type 0} (f : ℕ → A) (cap : ℕ) (c : Cursor) (h : Held cap c) where
  -- the first is at the start, and the others are the list once it has gone
  pub first-elems : 0 < c.count → elems f cap c ≡ f c.start ∷ elems f cap (popped cap c)
  unfolding elems listed
  first-elems pos =
      let n = c.count - 1 in
      let e : c.count ≡ suc n = omega arith in
      let g : ℕ → A = λ i. f (nth_of cap i c) in
      let k : ℕ → A = λ i. f (nth_of cap i (popped cap c)) in
      ap (listed g) e
      ∙ ap (λ (a : A). a ∷ listed (λ i. g (suc i)) n) (ap f (first_slot cap c h))
      ∙ ap (λ (l : List A). f c.start ∷ l) (listed_same (λ i. g (suc i)) k n (λ i b. ap f (next i (omega arith))))
    where
      next : (i : ℕ) → i < cap → nth_of cap (suc i) c ≡ nth_of cap i (popped cap c)
      next i b =
          let e : c.start + suc i ≡ c.start + 1 + i = omega arith in
          rw e (sym (wrap-on (c.start + 1) i cap (omega arith) b))

  -- the first has gone, where there was one
  pub pop-elems : elems f cap (popped cap c) ≡ drop 1 (elems f cap c)
  pop-elems = ⊎_elim some none (side 0 c.count)
    where
      some : 0 < c.count → elems f cap (popped cap c) ≡ drop 1 (elems f cap c)
      some pos = sym (ap (drop 1) (first-elems pos))

      none : c.count ≤ 0 → elems f cap (popped cap c) ≡ drop 1 (elems f cap c)
      none z = elems-none f cap (popped cap c) (omega arith) ∙ sym (ap (drop 1) (elems-none f cap c (omega arith)))
