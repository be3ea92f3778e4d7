-- The definitions at work on four slots, computed. Assumes nothing.
use Rattle.std.specs.Prelude.{◌≡◌, refl, List, [], ◌∷◌, ℕ, ◌+◌}
use Rattle.queue.specs.Slots.{wrap}
use Rattle.queue.specs.Listed.{listed}
use Rattle.queue.specs.Cursors.{slot_of, elems, pushed_by}
use Rattle.queue.specs.Append.{stored_from}
use Rattle.queue.specs.declared.Cursor.{Cursor}

abbrev slots : List ℕ
slots = 10 ∷ 11 ∷ 12 ∷ 13 ∷ []

-- two elements from slot 3 on: the second stands in slot 0
abbrev cursor : Cursor
cursor = record { start = 3; count = 2 }

-- two more at the back; slot 3 keeps the first element
abbrev after : List ℕ
after = 10 ∷ 20 ∷ 21 ∷ 13 ∷ []

more : stored_from 4 slots (cursor.start + cursor.count) (20 ∷ 21 ∷ []) ≡ after
unfolding stored_from wrap
more = refl

full : elems (slot_of after 0) 4 (pushed_by 2 cursor) ≡ 13 ∷ 10 ∷ 20 ∷ 21 ∷ []
unfolding elems listed wrap
full = refl
