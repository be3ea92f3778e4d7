-- Host bytes put behind those that wait, over parts: the definition's hand-over. Assumes nothing.
use Rattle.std.specs.Prelude.{◌≡◌, refl, List, [], ◌∷◌, ◌++◌, ℕ, ◌+◌, ◌≤◌, length}
use Rattle.std.proofs.Common.{sym, ap, subst, ◌∙◌, arith}
use Rattle.model.specs.State
use Rattle.model.specs.Setters.{with_host}
use Rattle.model.specs.Arm.{arm}
use Rattle.model.specs.Calls.{joined, hand_over}
use Rattle.queue.specs.Cursors.{Held, pushed_by}
use Rattle.queue.specs.Laws.{push-held}
use Rattle.queue.specs.declared.Cursor.{Cursor}
use Rattle.queue.specs.Append.{stored_from, stored-length, append-elems}
use Rattle.device.specs.Holds.{Arrays, abs, Shape}
use Rattle.device.specs.Arms.{Ready, ArmsAny}
use Rattle.device.specs.declared.Core.{Core}
use Rattle.device.specs.Joins.{RoomFor, Joins}

abbrev pub waiting_core : Core → Cursor → Cursor → Core
waiting_core c host runs = record {
  map = c.map;
  control = c.control;
  receiving = c.receiving;
  byte = c.byte;
  flight = c.flight;
  tx = c.tx;
  host = host;
  runs = runs;
  rx = c.rx;
}

abbrev pub waiting_arrays : Arrays → List ℕ → List ℕ → List ℕ → Arrays
waiting_arrays a host dates counts =
    record { gone_at = a.gone_at; flight = a.flight; tx = a.tx; host = host; run_at = dates; run_len = counts; rx = a.rx }

handed : (date : ℕ) (bs : List ℕ) (u : State.Uart ℕ ℕ) → 1 ≤ length bs
    → hand_over date bs u ≡ arm (with_host (u.host ++ bs) (joined date (length bs) u.host_runs) u)
unfolding hand_over
handed date [] u h = absurd (omega arith)
handed date (b ∷ bs) u h = refl

module _ (date : ℕ) (bs : List ℕ) (c : Core) (a : Arrays) (k : Shape c a) (room : c.host.count + length bs ≤ 1024)
    {hosts' : List ℕ} (stored : hosts' ≡ stored_from 1024 a.host (c.host.start + c.host.count) bs)
    {runs' : Cursor} {dates' counts' : List ℕ} (j : Joins date (length bs) c.runs a.run_at a.run_len runs' dates' counts') where
  abbrev pub next_core : Core
  next_core = waiting_core c (pushed_by (length bs) c.host) runs'

  abbrev pub next_arrays : Arrays
  next_arrays = waiting_arrays a hosts' dates' counts'

  pub waits-shape : Shape next_core next_arrays
  waits-shape =
      let host = push-held 1024 c.host k.host (length bs) room in
      let slots = ap length stored ∙ stored-length 1024 a.host _ bs ∙ k.host_slots in
      search

  waits-abs : abs next_core next_arrays ≡ with_host ((abs c a).host ++ bs) (joined date (length bs) (abs c a).host_runs) (abs c a)
  waits-abs = rw (stored, append-elems 0 1024 bs a.host c.host k.host_slots k.host room, j.same)

-- what a hand-over asks: the queues stand in their slots, and where there is a byte there is room for all
pub record Takes (c : Core) (gone_at hosts dates counts : List ℕ) (date n : ℕ) : Type 0 where
  pub ready : Ready c gone_at
  pub host : Held 1024 c.host
  pub host_slots : length hosts ≡ 1024
  pub runs : Held 64 c.runs
  pub date_slots : length dates ≡ 64
  pub count_slots : length counts ≡ 64
  pub room : 1 ≤ n → c.host.count + n ≤ 1024
  pub runs_room : 1 ≤ n → RoomFor c.runs dates counts date n

-- the queues stand in their slots again, and the state is the definition's
pub record Hands (date : ℕ) (bs : List ℕ) (c : Core) (a : Arrays) (c' : Core) (a' : Arrays) : Type 0 where
  pub shape : Shape c' a'
  pub same : abs c' a' ≡ hand_over date bs (abs c a)

-- whatever stands in the arrays that a hand-over does not touch
abbrev pub HandsAny : ℕ → List ℕ → Core → List ℕ → List ℕ → List ℕ → List ℕ → Core → List ℕ → List ℕ → List ℕ → Type 0
HandsAny date bs c gone_at hosts dates counts c' hosts' dates' counts' =
    (a : Arrays) → a.gone_at ≡ gone_at → a.host ≡ hosts → a.run_at ≡ dates → a.run_len ≡ counts → Shape c a
    → Hands date bs c a c' (waiting_arrays a hosts' dates' counts')

none-handed : (date : ℕ) (bs : List ℕ) (u : State.Uart ℕ ℕ) → length bs ≡ 0 → u ≡ hand_over date bs u
unfolding hand_over
none-handed date [] u e = refl
none-handed date (b ∷ bs) u e = absurd (omega arith)

module _ (date : ℕ) (bs : List ℕ) (c : Core) (gone_at hosts dates counts : List ℕ) where
  pub hands_none : length bs ≡ 0 → HandsAny date bs c gone_at hosts dates counts c hosts dates counts
  hands_none e = λ a eg eh ed ec k. rw (← eh, ← ed, ← ec) (record { shape = k; same = none-handed date bs (abs c a) e })

  pub hands-some : 1 ≤ length bs → c.host.count + length bs ≤ 1024 → {hosts' : List ℕ}
      → hosts' ≡ stored_from 1024 hosts (c.host.start + c.host.count) bs
      → {runs' : Cursor} {dates' counts' : List ℕ} → Joins date (length bs) c.runs dates counts runs' dates' counts'
      → {waiting : Cursor} → waiting ≡ pushed_by (length bs) c.host → {c₂ : Core} → ArmsAny (waiting_core c waiting runs') gone_at dates' c₂
      → HandsAny date bs c gone_at hosts dates counts c₂ hosts' dates' counts'
  hands-some some_byte room {hosts'} stored {runs'} {dates'} {counts'} j {waiting} ew {c₂} arms = λ a eg eh ed ec k.
      let stored' : hosts' ≡ stored_from 1024 a.host (c.host.start + c.host.count) bs =
      stored ∙ ap (λ (l : List ℕ). stored_from 1024 l (c.host.start + c.host.count) bs) (sym eh)
      in
      let j' : Joins date (length bs) c.runs a.run_at a.run_len runs' dates' counts' =
      subst (λ (d : List ℕ). Joins date (length bs) c.runs d a.run_len runs' dates' counts') (sym ed)
      (subst (λ (n : List ℕ). Joins date (length bs) c.runs dates n runs' dates' counts') (sym ec) j)
      in
      let next : ArmsAny (waiting_core c (pushed_by (length bs) c.host) runs') gone_at dates' c₂ =
      subst (λ (w : Cursor). ArmsAny (waiting_core c w runs') gone_at dates' c₂) ew arms
      in
      let armed = next (next_arrays date bs c a k room stored' j') eg refl (waits-shape date bs c a k room stored' j') in
      record {
        shape = armed.shape;
        same = armed.same ∙ ap arm (waits-abs date bs c a k room stored' j') ∙ sym (handed date bs (abs c a) some_byte);
      }
