-- A push and a pop that a test allows: a loop moves a queue without a branch, and a test that fails leaves the list as it
-- was. Assumes nothing.
use Rattle.std.specs.Prelude.{◌≡◌, Bool, [], ◌∷◌, ◌++◌, ℕ, ◌<◌}
use Rattle.std.proofs.Math.Path.{refl, ap, sym}
use Rattle.std.proofs.Common.{◌∙◌, append-nil, arith}
use Rattle.std.proofs.Math.Bool.{true, false}
use Rattle.queue.specs.Cursors.{Held, back_of, elems, pushed_if, popped_if, one_if, drop_if}
use Rattle.queue.specs.Laws.{push-held, pop-held, pop-elems}
use Rattle.queue.specs.Stores.{Stored, same-stored, push-elems}
use Rattle.queue.specs.declared.Cursor.{Cursor}

module _ (cap : ℕ) (c : Cursor) (h : Held cap c) where
  -- the cursor stays within its slots; room is needed only where the test passes
  pub push-if-held : (t : Bool) → (t ≡ true → c.count < cap) → Held cap (pushed_if t c)
  unfolding pushed_if
  push-if-held true room = let r = room refl in push-held cap c h 1 (omega arith)
  push-if-held false room = h

  -- a pop asks for nothing
  pub pop-if-held : (t : Bool) → Held cap (popped_if cap t c)
  unfolding popped_if
  pop-if-held true = pop-held cap c h
  pop-if-held false = h

module _ {A : Type 0} (f : ℕ → A) (cap : ℕ) (c : Cursor) (h : Held cap c) where
  -- v is stored at the slot for the next: the new element, or what stood there where the test fails
  pub push-if-elems : (t : Bool) (g : ℕ → A) (b v : A) → (t ≡ true → (c.count < cap) × (v ≡ b)) → (t ≡ false → v ≡ f (back_of cap c))
      → Stored (back_of cap c) v f g → elems g cap (pushed_if t c) ≡ elems f cap c ++ one_if t b
  unfolding pushed_if one_if
  push-if-elems true g b v on off s = push-elems f g cap c h v (on refl).0 s ∙ ap (λ (a : A). elems f cap c ++ (a ∷ [])) (on refl).1
  push-if-elems false g b v on off s = same-stored f g cap c (back_of cap c) (rw (← off refl) s) ∙ sym (append-nil (elems f cap c))

  -- the first has gone where the test passes
  pub pop-if-elems : (t : Bool) → elems f cap (popped_if cap t c) ≡ drop_if t (elems f cap c)
  unfolding popped_if drop_if
  pop-if-elems true = pop-elems f cap c h
  pop-if-elems false = refl
