-- A queue is a cursor and its slots: what they hold is a list, and every contract is said of that list. The slots are a
-- function from a slot's number, so that one definition serves an array and a pair of arrays. Assumes nothing.
use Rattle.std.specs.Prelude.{Bool, true, false, List, [], ◌∷◌, ℕ, ◌+◌, ◌-◌, ◌<◌, ◌≤◌, min, get_or, drop}
use Rattle.queue.specs.Slots.{wrap}
use Rattle.queue.specs.Listed.{listed}
use Rattle.queue.specs.declared.Cursor.{Cursor}

-- the most slots that a queue has: document 01's bytes that left
abbrev pub most : ℕ
most = 1152

-- the cursor is within `cap` slots
pub record Held (cap : ℕ) (c : Cursor) : Type 0 where
  pub low : c.start < cap
  pub few : c.count ≤ cap

-- what stands in the slots of an array
abbrev pub slot_of : {A : Type 0} → List A → A → ℕ → A
slot_of s d i = get_or s i d

-- ---- slots: of the n-th element, of the last one, and of the one to come

abbrev pub nth_of : ℕ → ℕ → Cursor → ℕ
nth_of cap n c = wrap (c.start + n) cap

abbrev pub last_of : ℕ → Cursor → ℕ
last_of cap c = nth_of cap (c.count - 1) c

abbrev pub back_of : ℕ → Cursor → ℕ
back_of cap c = nth_of cap c.count c

-- ---- the list

-- the elements, from the first to the last
unfoldable pub elems : {A : Type 0} → (ℕ → A) → ℕ → Cursor → List A
elems f cap c = listed (λ i. f (nth_of cap i c)) c.count

-- ---- the cursor after a change

-- nothing is held
abbrev pub empty : Cursor
empty = record { start = 0; count = 0 }

-- several were put at the back
abbrev pub pushed_by : ℕ → Cursor → Cursor
pushed_by n c = record { start = c.start; count = c.count + n }

-- one was put at the back
abbrev pub pushed : Cursor → Cursor
pushed c = pushed_by 1 c

-- the first has gone
abbrev pub popped : ℕ → Cursor → Cursor
popped cap c = record { start = wrap (c.start + 1) cap; count = c.count - 1 }

-- at most the first is kept
abbrev pub cut_to_one : Cursor → Cursor
cut_to_one c = record { start = c.start; count = min c.count 1 }

-- ---- a change that a test allows

unfoldable pub pushed_if : Bool → Cursor → Cursor
pushed_if true c = pushed c
pushed_if false c = c

unfoldable pub popped_if : ℕ → Bool → Cursor → Cursor
popped_if cap true c = popped cap c
popped_if cap false c = c

-- the list of one element, or none
unfoldable pub one_if : {A : Type 0} → Bool → A → List A
one_if true a = a ∷ []
one_if false a = []

-- the list without its first element, or whole
unfoldable pub drop_if : {A : Type 0} → Bool → List A → List A
drop_if true l = drop 1 l
drop_if false l = l
