-- A store in the slots, and what it does to a queue: at the back one more element, at the n-th element's slot another in its
-- place. Assumes nothing.
use Rattle.std.specs.Prelude.{◌≡◌, refl, ◌≢◌, length, take, drop, set}
use Rattle.std.proofs.Math.Path.{ap, ap₂}
use Rattle.std.proofs.Common.{sym, ◌∙◌, add-one, arith, drop_of_length-le, get_or-set_same, get_or-set_other}
use mathlib.Core.List.{List, [], ◌∷◌, ◌++◌}
use Rattle.std.proofs.Math.Logic.{⊎_elim}
use Prim.Native.Nat.{ℕ, suc, ◌-◌, ◌<◌, ◌≤◌}
use Rattle.std.proofs.lemmas.List.{set_split}
use Rattle.std.proofs.Math.Seq.{set_out}
use Rattle.queue.specs.Slots.{side}
use Rattle.queue.specs.Listed.{listed, listed_same, listed_suc, listed-set}
use Rattle.queue.specs.Cursors.{Held, slot_of, nth_of, last_of, back_of, elems, pushed}
use Rattle.queue.specs.Laws.{elems-same, first_slot, nth-apart, elems-length}
use Rattle.queue.specs.declared.Cursor.{Cursor}

-- the slots g are the slots f, with v at slot k
pub record Stored {A : Type 0} (k : ℕ) (v : A) (f g : ℕ → A) : Type 0 where
  pub new : g k ≡ v
  pub old : (i : ℕ) → i ≢ k → g i ≡ f i

-- a store in an array
pub set-stored : {A : Type 0} (s : List A) (d : A) (k : ℕ) (v : A) → k < length s → Stored k v (slot_of s d) (slot_of (set s k v) d)
set-stored s d k v low = record { new = get_or-set_same s k v d low; old = λ i other. get_or-set_other s k i v d other }

-- slots that are left alone
pub kept : {A : Type 0} (k : ℕ) (f : ℕ → A) → Stored k (f k) f f
kept k f = record { new = refl; old = λ i other. refl }

-- stores at one slot of two arrays, or at one of them, as a store in the pair
pub both : {A B C : Type 0} (pair : A → B → C) (k : ℕ) {a : A} {b : B} {f f' : ℕ → A} {g g' : ℕ → B}
    → Stored k a f f' → Stored k b g g' → Stored k (pair a b) (λ i. pair (f i) (g i)) (λ i. pair (f' i) (g' i))
both pair k s t = record { new = ap₂ pair s.new t.new; old = λ i other. ap₂ pair (s.old i other) (t.old i other) }

-- a store of what stood there changes nothing
pub same-stored : {A : Type 0} (f g : ℕ → A) (cap : ℕ) (c : Cursor) (k : ℕ) → Stored k (f k) f g → elems g cap c ≡ elems f cap c
same-stored f g cap c k s = elems-same g f cap cap c c refl (λ i b. at (nth_of cap i c))
  where
    at : (i : ℕ) → g i ≡ f i
    at i =
        ⊎_elim
        (λ (l : i < k). s.old i (omega arith))
        (λ (l : k ≤ i).
        ⊎_elim (λ (m : k < i). s.old i (omega arith)) (λ (m : i ≤ k). let e : i ≡ k = omega arith in rw e s.new) (side k i))
        (side i k)

module _ {A : Type 0} (f g : ℕ → A) (cap : ℕ) (c : Cursor) (h : Held cap c) (v : A) where
  -- a store at the slot for the next, and the cursor pushed: one more at the back
  pub push-elems : c.count < cap → Stored (back_of cap c) v f g → elems g cap (pushed c) ≡ elems f cap c ++ (v ∷ [])
  unfolding elems
  push-elems room s =
      let p : ℕ → A = λ i. f (nth_of cap i c) in
      let q : ℕ → A = λ i. g (nth_of cap i c) in
      ap (listed q) (add-one c.count)
      ∙ listed_suc q c.count
      ∙ ap₂ (λ (l : List A) (a : A). l ++ (a ∷ []))
      (listed_same q p c.count (λ i b. s.old (nth_of cap i c) (nth-apart cap c h i c.count b room))) s.new

  -- a store at the slot of the n-th element: that one is another, and the others stay
  pub nth-stored : (n : ℕ) → n < c.count → Stored (nth_of cap n c) v f g → elems g cap c ≡ set (elems f cap c) n v
  unfolding elems
  nth-stored n low s =
      listed-set (λ i. f (nth_of cap i c)) (λ i. g (nth_of cap i c)) c.count n v low s.new
      (λ i b other. s.old (nth_of cap i c) (apart i b other))
    where
      apart : (i : ℕ) → i < c.count → i ≢ n → nth_of cap i c ≢ nth_of cap n c
      apart i b other =
          ⊎_elim
          (λ (l : i < n). nth-apart cap c h i n l (omega arith))
          (λ (l : n ≤ i) e. nth-apart cap c h n i (omega (arith, other)) (omega arith) (sym e))
          (side i n)

  -- a store at a slot that holds no element changes nothing
  pub unused-stored : (n : ℕ) → c.count ≤ n → n < cap → Stored (nth_of cap n c) v f g → elems g cap c ≡ elems f cap c
  unused-stored n past low s = elems-same g f cap cap c c refl (λ i b. s.old (nth_of cap i c) (nth-apart cap c h i n (omega arith) low))

  -- both at once, for a store that no test guards: `set` past a list's end changes nothing
  pub any-stored : (n : ℕ) → n < cap → Stored (nth_of cap n c) v f g → elems g cap c ≡ set (elems f cap c) n v
  any-stored n low s =
      ⊎_elim
      (λ (l : n < c.count). nth-stored n l s)
      (λ (l : c.count ≤ n). unused-stored n l low s ∙ sym (set_out (elems f cap c) n v (rw (elems-length f cap c) l)))
      (side n c.count)

  -- a store at the first element's slot
  pub first-stored : 0 < c.count → Stored c.start v f g → elems g cap c ≡ v ∷ drop 1 (elems f cap c)
  first-stored pos s =
      nth-stored 0 pos (rw (first_slot cap c h) s)
      ∙ set_split (elems f cap c) 0 v (rw (elems-length f cap c) pos)

  -- a store at the start that no test guards: an empty queue stays empty
  pub start-stored : Stored c.start v f g → elems g cap c ≡ set (elems f cap c) 0 v
  start-stored s = let low = h.low in any-stored 0 (omega arith) (rw (first_slot cap c h) s)

  -- a store at the last element's slot
  pub last_stored : 0 < c.count → Stored (last_of cap c) v f g → elems g cap c ≡ take (c.count - 1) (elems f cap c) ++ (v ∷ [])
  last_stored pos s =
      let n = c.count - 1 in
      let l : length (elems f cap c) ≡ c.count = elems-length f cap c in
      nth-stored n (omega arith) s
      ∙ set_split (elems f cap c) n v (omega arith)
      ∙ ap (λ (r : List A). take n (elems f cap c) ++ (v ∷ r)) (drop_of_length-le (elems f cap c) {i = suc n} (omega arith))
