-- Several elements at the back of a queue: what stands in the slots then, as two plain copies, and that the list goes on with
-- them. Assumes nothing.
use Rattle.std.specs.Prelude.{◌≡◌, ◌⊎◌, take, drop, set}
use Rattle.std.proofs.Math.Path.{refl, ap}
use Rattle.std.proofs.Common.{sym, ◌∙◌, inl, inr, add-zero, length-drop, take-append-drop, drop_of_length-le, length-take-le, take_all}
use mathlib.Core.List.{List, [], ◌∷◌, ◌++◌, append-nil}
use Rattle.std.proofs.Math.Logic.{⊎_elim}
use Prim.Native.Nat.{ℕ, suc, ◌+◌, ◌-◌, ◌<◌, ◌≤◌}
use native.Mathlib.Omega.{arith}
use Rattle.std.proofs.Math.ListN.{length, length-set}
use Rattle.std.proofs.lemmas.List.Edits.{sets, sets-eq}
use Rattle.std.proofs.Math.Seq.{paste, paste-zero, append_snoc}
use Rattle.queue.specs.Slots.{wrap, before, side, wrap-in, wrap-over, wrap-low}
use Rattle.queue.specs.Cursors.{Held, slot_of, back_of, elems, pushed, pushed_by}
use Rattle.queue.specs.Laws.{back_low, push-held, elems-same}
use Rattle.queue.specs.Stores.{set-stored, push-elems}
use Rattle.queue.specs.declared.Cursor.{Cursor}

-- elements stored one after the other, the first at the slot of `place`
unfoldable pub stored_from : {A : Type 0} → ℕ → List A → ℕ → List A → List A
stored_from cap s place [] = s
stored_from cap s place (b ∷ bs) = stored_from cap (set s (wrap place cap) b) (suc place) bs

module _ {A : Type 0} (cap : ℕ) where
  -- the slots stay as many
  pub stored-length : (s : List A) (place : ℕ) (bs : List A) → length (stored_from cap s place bs) ≡ length s
  unfolding stored_from
  stored-length s place [] = refl
  stored-length s place (b ∷ bs) = stored-length (set s (wrap place cap) b) (suc place) bs ∙ length-set s (wrap place cap) b

  -- some elements, and then the others
  stored-append : (s : List A) (place : ℕ) (xs ys : List A)
      → stored_from cap s place (xs ++ ys) ≡ stored_from cap (stored_from cap s place xs) (place + length xs) ys
  unfolding stored_from
  stored-append s place [] ys = ap (λ (p : ℕ). stored_from cap s p ys) (sym (add-zero place))
  stored-append s place (x ∷ xs) ys =
      let e : suc place + length xs ≡ place + suc (length xs) = omega arith in
      stored-append (set s (wrap place cap) x) (suc place) xs ys ∙ ap (λ (p : ℕ). stored_from cap (stored_from cap s place (x ∷ xs)) p ys) e

  -- ---- straight runs

  -- before the end of the slots, and after it
  run-before : (s : List A) (at : ℕ) (bs : List A) → at + length bs ≤ cap → stored_from cap s at bs ≡ sets s at bs
  unfolding stored_from
  run-before s at [] fits = refl
  run-before s at (b ∷ bs) fits = rw (wrap-in at cap (omega arith)) (run-before (set s at b) (suc at) bs (omega arith))

  run-after : (s : List A) (at : ℕ) (bs : List A) → at + length bs ≤ cap → stored_from cap s (cap + at) bs ≡ sets s at bs
  unfolding stored_from
  run-after s at [] fits = refl
  run-after s at (b ∷ bs) fits =
      let w : wrap (cap + at) cap ≡ at = wrap-over (cap + at) cap (omega arith) ∙ omega arith in
      let e : suc (cap + at) ≡ cap + suc at = omega arith in
      rw (w, e) (run-after (set s at b) (suc at) bs (omega arith))

  -- a place of the second round, or its slot
  stored-slot : (s : List A) (place : ℕ) (bs : List A) → place + length bs ≤ cap + cap
      → stored_from cap s (wrap place cap) bs ≡ stored_from cap s place bs
  stored-slot s place bs fits =
      ⊎_elim
      (λ (p : place < cap). rw (wrap-in place cap p))
      (λ (p : cap ≤ place).
      let e : cap + (place - cap) ≡ place = omega arith in
      rw (wrap-over place cap p) (run-before s (place - cap) bs (omega arith) ∙ sym (run-after s (place - cap) bs (omega arith))
      ∙ ap (λ (k : ℕ). stored_from cap s k bs) e))
      (side place cap)

  -- ---- copies

  -- a copy of n elements is a straight run
  copy-before : (s : List A) (at : ℕ) (bs : List A) (n : ℕ) → length s ≡ cap → n ≤ length bs → at + n ≤ cap
      → paste s at bs n ≡ stored_from cap s at (take n bs)
  copy-before s at bs n long few fits =
      let l : length (take n bs) ≡ n = length-take-le n bs few in
      sym (run-before s at (take n bs) (omega arith) ∙ sets-eq (take n bs) s at (omega arith)
      ∙ ap (λ (k : ℕ). take at s ++ take n bs ++ drop (at + k) s) l)

  copy-after : (s bs : List A) (n : ℕ) → length s ≡ cap → n ≤ length bs → n ≤ cap → paste s 0 bs n ≡ stored_from cap s cap (take n bs)
  copy-after s bs n long few fits =
      let l : length (take n bs) ≡ n = length-take-le n bs few in
      sym (ap (λ (p : ℕ). stored_from cap s p (take n bs)) (sym (add-zero cap)) ∙ run-after s 0 (take n bs) (omega arith)
      ∙ sets-eq (take n bs) s 0 (omega arith) ∙ ap (λ (k : ℕ). take n bs ++ drop (0 + k) s) l)

  -- two copies, where the first ends at the end of the slots or is all
  two-copies : (s : List A) (at : ℕ) (bs : List A) (k : ℕ) → length s ≡ cap → length bs ≤ cap → k ≤ length bs → at + k ≤ cap
      → (at + k ≡ cap) ⊎ (length bs ≤ k)
      → paste (paste s at bs k) 0 (drop k bs) (length bs - k) ≡ stored_from cap s at bs
  unfolding stored_from
  two-copies s at bs k long few low fits way =
      ap (λ (t : List A). paste t 0 (drop k bs) (length bs - k)) (copy-before s at bs k long low fits) ∙ ⊎_elim end all way
    where
      front : List A
      front = stored_from cap s at (take k bs)

      l : length (take k bs) ≡ k
      l = length-take-le k bs low

      whole : stored_from cap front (at + k) (drop k bs) ≡ stored_from cap s at bs
      whole =
          ap (λ (n : ℕ). stored_from cap front (at + n) (drop k bs)) (sym l) ∙ sym (stored-append s at (take k bs) (drop k bs))
          ∙ ap (stored_from cap s at) (take-append-drop k bs)

      end : at + k ≡ cap → paste front 0 (drop k bs) (length bs - k) ≡ stored_from cap s at bs
      end e =
          let m : length (drop k bs) ≡ length bs - k = length-drop k bs in
          copy-after front (drop k bs) (length bs - k) (stored-length s at (take k bs) ∙ long) (omega arith) (omega arith)
          ∙ ap (stored_from cap front cap) (take_all (length bs - k) (drop k bs) (omega arith))
          ∙ ap (λ (p : ℕ). stored_from cap front p (drop k bs)) (sym e)
          ∙ whole

      all : length bs ≤ k → paste front 0 (drop k bs) (length bs - k) ≡ stored_from cap s at bs
      all e =
          let z : length bs - k ≡ 0 = omega arith in
          ap (paste front 0 (drop k bs)) z ∙ sym (paste-zero front 0 (drop k bs))
          ∙ ap (stored_from cap front (at + k)) (sym (drop_of_length-le bs {i = k} e)) ∙ whole

-- the two copies of `append`: to the slot `at` of a place, up to the end of the slots, and then to slot 0
pub appended : {A : Type 0} (cap : ℕ) (s : List A) (place : ℕ) (bs : List A) → length s ≡ cap → place < cap + cap
    → place + length bs ≤ cap + cap → length bs ≤ cap
    → {at k : ℕ} {t u : List A} → at ≡ wrap place cap → k ≡ before cap at (length bs)
    → t ≡ paste s at bs k → u ≡ paste t 0 (drop k bs) (length bs - k) → u ≡ stored_from cap s place bs
appended {A} cap s place bs long two fits few {at} {k} {t} slot first copy then =
    then
    ∙ ap (λ (r : List A). paste r 0 (drop k bs) (length bs - k)) copy
    ∙ two-copies cap s at bs k long few (omega arith) (omega (arith, low)) way
    ∙ ap (λ (p : ℕ). stored_from cap s p bs) slot
    ∙ stored-slot cap s place bs fits
  where
    low : wrap place cap < cap
    low = wrap-low place cap two

    way : (at + k ≡ cap) ⊎ (length bs ≤ k)
    way =
        ⊎_elim
        (λ (l : cap - at < length bs). inl (omega (arith, low)))
        (λ (l : length bs ≤ cap - at). inr (omega arith))
        (side (cap - at) (length bs))

-- the elements at the back: the list goes on with them
pub append-elems : {A : Type 0} (d : A) (cap : ℕ) (bs s : List A) (c : Cursor) → length s ≡ cap → Held cap c → c.count + length bs ≤ cap
    → elems (slot_of (stored_from cap s (c.start + c.count) bs) d) cap (pushed_by (length bs) c) ≡ elems (slot_of s d) cap c ++ bs
unfolding stored_from
append-elems d cap [] s c long h room =
    elems-same (slot_of s d) (slot_of s d) cap cap (pushed_by 0 c) c (add-zero c.count) (λ i b. refl)
    ∙ sym (append-nil (elems (slot_of s d) cap c))
append-elems {A} d cap (b ∷ bs) s c long h room =
    let t : List A = set s (back_of cap c) b in
    let back : back_of cap c < cap = back_low cap c h in
    let e : suc (c.start + c.count) ≡ c.start + (c.count + 1) = omega arith in
    let n : c.count + suc (length bs) ≡ c.count + 1 + length bs = omega arith in
    rw (e, n)
    (append-elems d cap bs t (pushed c) (length-set s (back_of cap c) b ∙ long) (push-held cap c h 1 (omega arith)) (omega arith)
    ∙ ap (λ (l : List A). l ++ bs) (push-elems (slot_of s d) (slot_of t d) cap c h b (omega arith)
    (set-stored s d (back_of cap c) b (omega arith)))
    ∙ append_snoc (elems (slot_of s d) cap c) b bs)
