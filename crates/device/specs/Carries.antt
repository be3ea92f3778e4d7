-- What the control is given of the slots. Assumes nothing.
use Rattle.std.specs.Prelude.{◌≡◌, ℕ, ◌<◌, ◌≤◌, Some, None}
use Rattle.std.proofs.Math.Path.{refl, ap}
use Rattle.std.proofs.Common.{ap₂, ◌∙◌, ⊎_elim, lt-ltb, le-ltb}
use mathlib.Core.List.{List, [], ◌∷◌}
use native.Mathlib.Omega.{arith}
use Rattle.std.proofs.Math.ListN.{get_or}
use Rattle.model.specs.State.{Run}
use Rattle.model.specs.Numbers.{choose}
use Rattle.queue.specs.Slots.{side}
use Rattle.queue.specs.Cursors.{Held, slot_of}
use Rattle.queue.specs.Laws.{first-elems, elems-none}
use Rattle.queue.specs.declared.Cursor.{Cursor}
use Rattle.line.specs.Names.{Receiving}
use Rattle.line.specs.Applied.{waiting, mark}
use Rattle.device.specs.Holds.{run_in, host_of, runs_of, on_the_line}
use Rattle.device.specs.Waits.{waiting_at}

pub mark_of : (r : Receiving) (b : ℕ) → mark (on_the_line r b) ≡ r
unfolding mark on_the_line
mark_of None b = refl
mark_of (Some f) b = refl

waiting-nil : (rs : List Run) → waiting {H = ℕ} rs [] ≡ None
unfolding waiting
waiting-nil [] = refl
waiting-nil (r ∷ rs) = refl

pub waiting-of : (hosts dates counts : List ℕ) (h r : Cursor) → Held 1024 h → Held 64 r
    → waiting (runs_of dates counts r) (host_of hosts h) ≡ waiting_at h.count r.count (get_or dates r.start 0)
unfolding waiting waiting_at choose
waiting-of hosts dates counts h r hh rh =
    ⊎_elim
    (λ (p : 0 < h.count).
    ⊎_elim
    (λ (q : 0 < r.count).
    rw (lt-ltb 0 h.count p, lt-ltb 0 r.count q)
    (ap₂ waiting (first-elems (run_in dates counts) 64 r rh q) (first-elems (slot_of hosts 0) 1024 h hh p)))
    (λ (q : r.count ≤ 0).
    rw (lt-ltb 0 h.count p, le-ltb 0 r.count q)
    (ap (λ (l : List Run). waiting l (host_of hosts h)) (elems-none (run_in dates counts) 64 r (omega arith))))
    (side 0 r.count))
    (λ (p : h.count ≤ 0).
    rw (le-ltb 0 h.count p) (ap (waiting (runs_of dates counts r)) (elems-none (slot_of hosts 0) 1024 h (omega arith))
    ∙ waiting-nil (runs_of dates counts r)))
    (side 0 h.count)
