-- The runs of waiting host bytes in their slots: the last one's date, and what joining or adding a run does. Assumes nothing.
use Rattle.std.specs.Prelude.{◌≡◌, refl, Bool, true, false, ℕ, ◌+◌, ◌-◌, ◌^◌, ◌≤◌, ◌<◌, ltb, leb, length, take, get_or, set}
use Rattle.std.proofs.Math.Path.{sym, ap}
use Rattle.std.proofs.Common.{◌∙◌, arith, lt-ltb, le-ltb, le-leb, leb-true, leb-false, length-set}
use Rattle.std.proofs.lemmas.Bool.{false≢true, lt-leb}
use mathlib.Core.List.{List, [], ◌∷◌, ◌++◌}
use Rattle.std.proofs.Math.Logic.{⊎_elim}
use Rattle.model.specs.State.{Run}
use Rattle.model.specs.Numbers.{choose}
use Rattle.model.specs.Calls.{joined, last_date}
use Rattle.queue.specs.Slots.{side}
use Rattle.queue.specs.Cursors.{Held, slot_of, last_of, back_of, pushed}
use Rattle.queue.specs.Laws.{elems-none, elems-last, push-held, last-low, back_low}
use Rattle.queue.specs.Stores.{set-stored, both, kept, last_stored, push-elems}
use Rattle.queue.specs.declared.Cursor.{Cursor}
use Rattle.device.specs.Holds.{run_in, runs_of}

-- ---- of lists

-- the date and the count of the last run
pub last-date : (front : List Run) (r : Run) → last_date (front ++ (r ∷ [])) ≡ r.date
unfolding last_date
last-date [] r = refl
last-date (s ∷ []) r = refl
last-date (s ∷ t ∷ front) r = last-date (t ∷ front) r

module _ (date n : ℕ) where
  joins-last : (front : List Run) (r : Run) → date ≤ r.date
      → joined date n (front ++ (r ∷ [])) ≡ front ++ (record { date = r.date; count = r.count + n } ∷ [])
  unfolding joined choose
  joins-last [] r h = rw (le-leb _ _ h)
  joins-last (s ∷ []) r h = ap (λ (l : List Run). s ∷ l) (joins-last [] r h)
  joins-last (s ∷ t ∷ front) r h = ap (λ (l : List Run). s ∷ l) (joins-last (t ∷ front) r h)

  adds-last : (front : List Run) (r : Run) → r.date < date
      → joined date n (front ++ (r ∷ [])) ≡ (front ++ (r ∷ [])) ++ (record { date = date; count = n } ∷ [])
  unfolding joined choose
  adds-last [] r h = rw (lt-leb _ _ h)
  adds-last (s ∷ []) r h = ap (λ (l : List Run). s ∷ l) (adds-last [] r h)
  adds-last (s ∷ t ∷ front) r h = ap (λ (l : List Run). s ∷ l) (adds-last (t ∷ front) r h)

-- ---- of slots

-- whether bytes for a date join the last run
unfoldable pub joins : ℕ → ℕ → ℕ → Bool
joins runs last date = choose (ltb 0 runs) (leb date last) false

pub joins_true : (runs last date : ℕ) → joins runs last date ≡ true → (0 < runs) × (date ≤ last)
unfolding joins choose
joins_true runs last date e =
    ⊎_elim (λ (pos : 0 < runs). (pos, leb-true _ _ (rw (lt-ltb 0 _ pos) at e)))
    (λ (z : runs ≤ 0). absurd (false≢true (rw (le-ltb 0 _ z) at e))) (side 0 runs)

pub joins_false : (runs last date : ℕ) → joins runs last date ≡ false → 0 < runs → last < date
unfolding joins choose
joins_false runs last date e pos = leb-false _ _ (rw (lt-ltb 0 _ pos) at e)

-- a new run has a slot, and a count that grows fits
pub record RoomFor (runs : Cursor) (dates counts : List ℕ) (date n : ℕ) : Type 0 where
  pub slot : (0 < runs.count → get_or dates (last_of 64 runs) 0 < date) → runs.count < 64
  pub fits : 0 < runs.count → get_or counts (last_of 64 runs) 0 + n < 2 ^ 64

pub record Joins (date n : ℕ) (runs : Cursor) (dates counts : List ℕ) (runs' : Cursor) (dates' counts' : List ℕ) : Type 0 where
  pub held : Held 64 runs'
  pub date_slots : length dates' ≡ 64
  pub count_slots : length counts' ≡ 64
  pub same : runs_of dates' counts' runs' ≡ joined date n (runs_of dates counts runs)

module _ (dates counts : List ℕ) (runs : Cursor) where
  pub last_none : runs.count ≤ 0 → 0 ≡ last_date (runs_of dates counts runs)
  unfolding last_date
  last_none z = sym (ap last_date (elems-none (run_in dates counts) 64 runs (omega arith)))

  pub last_some : 0 < runs.count → get_or dates (last_of 64 runs) 0 ≡ last_date (runs_of dates counts runs)
  last_some pos =
      sym (ap last_date (elems-last (run_in dates counts) 64 runs pos)
      ∙ last-date (take (runs.count - 1) (runs_of dates counts runs)) (run_in dates counts (last_of 64 runs)))

module _ (date n : ℕ) (runs : Cursor) (dates counts : List ℕ) (h : Held 64 runs) (ds : length dates ≡ 64) (cs : length counts ≡ 64) where
  -- the last run's count grows
  pub grows : 0 < runs.count → date ≤ get_or dates (last_of 64 runs) 0
      → Joins date n runs dates counts runs dates (set counts (last_of 64 runs) (get_or counts (last_of 64 runs) 0 + n))
  grows pos early = record {
    held = h;
    date_slots = ds;
    count_slots = length-set counts _ _ ∙ cs;
    same =
        last_stored (run_in dates counts) (run_in dates (set counts (last_of 64 runs) (get_or counts (last_of 64 runs) 0 + n))) 64 runs h
        (record { date = get_or dates (last_of 64 runs) 0; count = get_or counts (last_of 64 runs) 0 + n }) pos
        (both (λ (d c : ℕ). record { date = d; count = c }) (last_of 64 runs) (kept (last_of 64 runs) (slot_of dates 0))
        (set-stored counts 0 (last_of 64 runs) _ (rw cs (last-low 64 runs h))))
        ∙ sym (ap (joined date n) (elems-last (run_in dates counts) 64 runs pos)
        ∙ joins-last date n (take (runs.count - 1) (runs_of dates counts runs)) (run_in dates counts (last_of 64 runs)) early);
  }

  -- where none waits or the last date is earlier, the definition adds a run
  new-run : (0 < runs.count → get_or dates (last_of 64 runs) 0 < date)
      → joined date n (runs_of dates counts runs) ≡ runs_of dates counts runs ++ (record { date = date; count = n } ∷ [])
  unfolding joined
  new-run late =
      ⊎_elim
      (λ (pos : 0 < runs.count).
      let e = elems-last (run_in dates counts) 64 runs pos in
      ap (joined date n) e ∙ adds-last date n (take (runs.count - 1) (runs_of dates counts runs))
      (run_in dates counts (last_of 64 runs)) (late pos)
      ∙ ap (λ (l : List Run). l ++ (record { date = date; count = n } ∷ [])) (sym e))
      (λ (z : runs.count ≤ 0). rw (elems-none (run_in dates counts) 64 runs (omega arith)))
      (side 0 runs.count)

  -- another run stands behind the others
  pub adds : runs.count < 64 → (0 < runs.count → get_or dates (last_of 64 runs) 0 < date)
      → Joins date n runs dates counts (pushed runs) (set dates (back_of 64 runs) date) (set counts (back_of 64 runs) n)
  adds room late = record {
    held = push-held 64 runs h 1 (omega arith);
    date_slots = length-set dates _ _ ∙ ds;
    count_slots = length-set counts _ _ ∙ cs;
    same =
        push-elems (run_in dates counts) (run_in (set dates (back_of 64 runs) date) (set counts (back_of 64 runs) n)) 64 runs h
        (record { date = date; count = n }) room
        (both (λ (d c : ℕ). record { date = d; count = c }) (back_of 64 runs)
        (set-stored dates 0 (back_of 64 runs) date (rw ds (back_low 64 runs h)))
        (set-stored counts 0 (back_of 64 runs) n (rw cs (back_low 64 runs h))))
        ∙ sym (new-run late);
  }
