-- The definitions at work on four slots, computed. Assumes nothing.
use Rattle.std.specs.Prelude.{◌≡◌, refl, List, [], ◌∷◌, ℕ}
use Rattle.queue.specs.Slots.{wrap}
use Rattle.queue.specs.Listed.{listed}
use Rattle.queue.specs.Cursors.{slot_of, last_of, back_of, elems, popped, cut_to_one}
use Rattle.queue.specs.declared.Cursor.{Cursor}

abbrev slots : List ℕ
slots = 10 ∷ 11 ∷ 12 ∷ 13 ∷ []

-- two elements from slot 3 on: the second stands in slot 0
abbrev cursor : Cursor
cursor = record { start = 3; count = 2 }

held : elems (slot_of slots 0) 4 cursor ≡ 13 ∷ 10 ∷ []
unfolding elems listed wrap
held = refl

last : slot_of slots 0 (last_of 4 cursor) ≡ 10
unfolding wrap
last = refl

back : slot_of slots 0 (back_of 4 cursor) ≡ 11
unfolding wrap
back = refl

gone : elems (slot_of slots 0) 4 (popped 4 cursor) ≡ 10 ∷ []
unfolding elems listed wrap
gone = refl

cut : elems (slot_of slots 0) 4 (cut_to_one cursor) ≡ 13 ∷ []
unfolding elems listed wrap
cut = refl
