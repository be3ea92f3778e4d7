-- Host bytes handed over: what the tests leave of room, and the state once they wait. Assumes nothing.
use Rattle.std.specs.Prelude.{◌≡◌, refl, false, List, [], ◌∷◌, ◌++◌, ℕ, ◌+◌, ◌-◌, ◌≤◌, ◌<◌, take, get_or, Err}
use Rattle.std.proofs.Common.{sym, ap, ◌∙◌}
use Rattle.std.proofs.Math.Path.{subst}
use Rattle.std.proofs.Math.Logic.{⊎_elim}
use Rattle.std.proofs.Math.Option.{Option, none, some}
use native.Mathlib.Omega.{arith}
use borrow.Author.Tests.{ltb-false}
use Rattle.std.proofs.Math.ListN.{length}
use Rattle.model.specs.State.{Run}
use Rattle.model.specs.Settle
use Rattle.model.specs.Calls
use Rattle.model.specs.Calls.{unless, dated, carried, quiet, last_date, host_date, hand_over}
use Rattle.model.specs.Plans.{settle_at}
use Rattle.model.specs.Tests.{date_end, host_full, runs_full}
use Rattle.model.proofs.Keeps.Dated.{not-refused}
use Rattle.model.specs.Events.{total}
use Rattle.model.specs.Limits.{run_counts}
use Rattle.model.proofs.Keeps.Kept.{Kept, settle-keeps, fewer-waiting, fewer-runs, last-run}
use Rattle.model.proofs.Keeps.EachCall.{room-before}
use Rattle.model.specs.declared.Refusal.{Refusal}
use Rattle.replies.specs.Refusals.{receiving}
use Rattle.replies.specs.Calls.{receive-tests}
use Rattle.queue.specs.Slots.{side}
use Rattle.queue.specs.Cursors.{slot_of, last_of}
use Rattle.queue.specs.Laws.{elems-length, elems-last}
use Rattle.device.specs.Holds.{Arrays, run_in, runs_of, abs, Valid}
use Rattle.device.specs.Settles.{Settles}
use Rattle.device.specs.declared.Core.{Core}
use Rattle.calls.specs.Answers.{dated_call, dated_work, Works, after, in-time, done_core}
use Rattle.model.specs.Names.{Done}
use Rattle.calls.specs.declared.answers.CallCore.{CallCore}
use Rattle.device.specs.Joins.{RoomFor, last_some}
use Rattle.host.specs.Hands.{waiting_arrays, Takes, HandsAny}

-- tests 5 and 6 do not refuse so many bytes for a date
pub record Room (c : Core) (a : Arrays) (date n : ℕ) : Type 0 where
  pub host : host_full (length (abs c a).host) n ≡ false
  pub runs : runs_full n (length (abs c a).host_runs) (last_date (abs c a).host_runs) date ≡ false

-- ---- there is room after the settling, which takes only from the front

last-count : (front : List Run) (r : Run) → r.count ≤ total (λ r. r.count) (front ++ (r ∷ []))
unfolding total
last-count [] r = omega arith
last-count (s ∷ front) r = omega (arith, last-count front r)

-- no run counts more bytes than wait
count_low : (c : Core) (a : Arrays) → Valid c a → 0 < c.runs.count → get_or a.run_len (last_of 64 c.runs) 0 ≤ 1024
count_low c a ok pos =
    let rs : List Run = runs_of a.run_at a.run_len c.runs in
    let last : Run = run_in a.run_at a.run_len (last_of 64 c.runs) in
    let low : last.count ≤ total (λ r. r.count) rs =
    subst (λ (l : List Run). last.count ≤ total (λ r. r.count) l) (sym (elems-last (run_in a.run_at a.run_len) 64 c.runs pos))
    (last-count (take (c.runs.count - 1) rs) last)
    in
    omega (arith, low, ok.within.run_sum, ok.within.host)

module _ (cycle date k : ℕ) (c : Core) (a : Arrays) {c₁ : Core} {a₁ : Arrays} {n o : ℕ} (s : Settles (settle_at cycle (abs c a)) c₁ a₁ n o)
    (room : Room c a date k)
    (some_byte : 1 ≤ k) where
  keeps : Kept (dated cycle (abs c a)) (abs c₁ a₁)
  keeps =
      subst (Kept (dated cycle (abs c a))) (sym s.gives.state)
      (settle-keeps cycle (dated cycle (abs c a)))

  pub host-room : c₁.host.count + k ≤ 1024
  unfolding host_full dated
  host-room =
      omega (
        arith,
        fewer-waiting keeps,
        ltb-false 1024 (length (abs c a).host + k) room.host,
        elems-length (slot_of a₁.host 0) 1024 c₁.host,
      )

  slot-left : (0 < c₁.runs.count → get_or a₁.run_at (last_of 64 c₁.runs) 0 < date) → c₁.runs.count < 64
  unfolding dated
  slot-left late =
      ⊎_elim
      (λ (pos : 0 < c₁.runs.count).
      let count : length (abs c₁ a₁).host_runs ≡ c₁.runs.count = elems-length (run_in a₁.run_at a₁.run_len) 64 c₁.runs in
      let same : last_date (abs c₁ a₁).host_runs ≡ last_date (abs c a).host_runs = last-run keeps (omega (arith, count)) in
      let before : last_date (abs c a).host_runs < date =
      subst (λ (d : ℕ). d < date) (last_some a₁.run_at a₁.run_len c₁.runs pos ∙ same) (late pos)
      in
      omega (arith, room-before k _ _ date room.runs some_byte before, fewer-runs keeps, count))
      (λ (z : c₁.runs.count ≤ 0). omega arith)
      (side 0 c₁.runs.count)

  pub runs-room : RoomFor c₁.runs a₁.run_at a₁.run_len date k
  runs-room = record {
    slot = slot-left;
    fits = λ pos. omega (arith, count_low c₁ a₁ s.ok pos, host-room);
  }

-- ---- what a hand-over asks, after the settling

pub takes : (cycle date : ℕ) (bs : List ℕ) {c : Core} {a : Arrays} {d : ℕ} → Room c a date (length bs) → {c₁ : Core} {a₁ : Arrays} {n o : ℕ}
    → Settles (settle_at cycle (abs c a)) c₁ a₁ n o → d ≡ date → Takes c₁ a₁.gone_at a₁.host a₁.run_at a₁.run_len d (length bs)
takes cycle date bs {c} {a} room {c₁} {a₁} s e =
    let k = s.ok.shape in
    subst (λ (x : ℕ). Takes c₁ a₁.gone_at a₁.host a₁.run_at a₁.run_len x (length bs)) (sym e)
    (record {
      ready = record { flight = k.flight; slots = k.gone_at_slots; period = s.ok.within.period_high };
      host = k.host;
      host_slots = k.host_slots;
      runs = k.runs;
      date_slots = k.run_date_slots;
      count_slots = k.run_count_slots;
      room = λ h. host-room cycle date (length bs) c a s room h;
      runs_room = λ h. runs-room cycle date (length bs) c a s room h;
    })

-- settled, and handed over
pub received : (cycle at : ℕ) (bs : List ℕ) {c : Core} {a : Arrays} → Valid c a
    → {c₁ : Core} {a₁ : Arrays} {n o d : ℕ} {c₂ : Core} {hosts' dates' counts' : List ℕ} {r : CallCore Done}
    → Settles (settle_at cycle (abs c a)) c₁ a₁ n o → d ≡ host_date cycle at
    → HandsAny d bs c₁ a₁.gone_at a₁.host a₁.run_at a₁.run_len c₂ hosts' dates' counts' → r ≡ done_core c₂ n o
    → Works (λ x. x) (dated_work cycle (Calls.receive cycle at bs) (abs c a)) r.core (waiting_arrays a₁ hosts' dates' counts') r.reply
    r.report
unfolding carried Calls.receive quiet
received cycle at bs {c} {a} _ {c₁} {a₁} {c₂ = c₂} {hosts'} {dates'} {counts'} s e hands same =
    let k = hands a₁ refl refl refl refl s.ok.shape in
    subst (λ (x : CallCore Done). Works (λ w. w) (dated_work cycle (Calls.receive cycle at bs) (abs c a)) x.core
    (waiting_arrays a₁ hosts' dates' counts') x.reply x.report) (sym same)
    (after (λ x. x) s _
    (record { shape = k.shape; replies = refl; notes = refl; state = k.same ∙ ap (λ (x : ℕ). hand_over x bs (abs c₁ a₁)) e }))

-- ---- the tests, from the numbers that the code reads

tested : (cycle at : ℕ) (bs : List ℕ) (c : Core) (a : Arrays) {last date : ℕ} → last ≡ last_date (abs c a).host_runs
    → date ≡ host_date cycle at
    → receiving cycle c.control.last (record { bytes = c.host.count; runs = c.runs.count; last_date = last }) (length bs) date
    ≡ receiving cycle c.control.last
    (record { bytes = length (abs c a).host; runs = length (abs c a).host_runs; last_date = last_date (abs c a).host_runs }) (length bs)
    (host_date cycle at)
tested cycle at bs c a el ed =
    rw (el, ed, elems-length (slot_of a.host 0) 1024 c.host, elems-length (run_in a.run_at a.run_len) 64 c.runs)

module _ (cycle at : ℕ) (bs : List ℕ) {c : Core} {a : Arrays} (ok : Valid c a) {last date : ℕ} (el : last ≡ last_date (abs c a).host_runs)
    (ed : date ≡ host_date cycle at) where
  abbrev pub checked : Option Refusal
  checked =
      receiving cycle c.control.last (record { bytes = c.host.count; runs = c.runs.count; last_date = last }) (length bs) date

  pub receive-checks : dated_call cycle (Calls.receive cycle at bs) (abs c a)
      ≡ unless checked Err (carried (some cycle) (Calls.receive cycle at bs (abs c a))) (abs c a)
  receive-checks =
      receive-tests cycle (abs c a) at bs
      ∙ ap (λ (t : Option Refusal). unless t Err (carried (some cycle) (Calls.receive cycle at bs (abs c a))) (abs c a))
      (sym (tested cycle at bs c a el ed))

  pub left-room : checked ≡ none → Valid c a × (cycle < date_end) × Room c a (host_date cycle at) (length bs)
  unfolding receiving
  left-room e =
      let tests = in-time cycle c.control.last _ (sym (tested cycle at bs c a el ed) ∙ e) in
      let five = not-refused _ _ _ tests.1 in
      (ok, tests.0, record { host = five.0; runs = (not-refused _ _ none five.1).0 })
