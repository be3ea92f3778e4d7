-- The writes of a row that do not settle, one by one: the core and its arrays stand for the next state of the definition. Assumes nothing.
use Rattle.std.specs.Prelude.{◌≡◌, refl, false, List, [], ◌∷◌, ltb, length, get_or, set}
use Rattle.std.proofs.Common.{sym, ap₂, subst, ◌∙◌, arith, length-append, length-set, le-ltb}
use Rattle.std.proofs.Math.Path.{ap}
use Prim.Native.Nat.{ℕ, suc, ◌+◌, ◌-◌, ◌<◌, ◌≤◌}
use Rattle.std.proofs.lemmas.Bool.{lt-leb}
use Rattle.dates.specs.Dates.{subcycles}
use Rattle.model.specs.Numbers.{earliest, in_cycles}
use Rattle.model.specs.State
use Rattle.model.specs.Setters.{with_wake, with_control, with_in_flight}
use Rattle.model.specs.Timing.{byte_time}
use Rattle.model.specs.Line.{fifo_bytes}
use Rattle.model.specs.Settle.{empty_threshold}
use Rattle.model.specs.Arm.{below_threshold_at}
use Rattle.model.specs.Registers.{Access, sent, dropped, send_byte}
use Rattle.model.specs.Tests.{transmit_full}
use Rattle.model.specs.Limits.{Within}
use Rattle.model.proofs.Laws.Choose.{choose-false}
use Rattle.theorems.specs.Rows.Still.{Still}
use Rattle.theorems.specs.Rows.Next
use Rattle.theorems.specs.Rows.Next.{joined}
use Rattle.model.specs.Names.{Date, Write}
use Rattle.queue.specs.Cursors.{Held, back_of, pushed}
use Rattle.queue.specs.Laws.{push-held}
use Rattle.queue.specs.declared.Cursor.{Cursor}
use Rattle.replies.specs.declared.notices.Notices.{Notices}
use Rattle.device.specs.Holds.{Arrays, flight_of, abs, Shape}
use Rattle.device.specs.Arms.{with_wake_of, wake_below, WakesBelow}
use Rattle.device.specs.declared.Core.{Core}
use Rattle.calls.specs.Answers.{Accesses}
use Rattle.calls.specs.Changes.{shape_of}
use Rattle.calls.specs.Queues.{flying_in}
use Rattle.access.specs.Sends.{gone_after, gone_at_of, SendsAny, with_flight_of, sends-any, send-period}
use Rattle.access.specs.Row.{Wrote, wrote_at}
use Rattle.access.specs.RowSteps.{quick-sent, quick-still, quick-within}
use Rattle.access.specs.Reads.{flying}
use Rattle.access.specs.RowParts.{left, around, Room, Before, Filled}

-- ---- one byte sent, and the wake armed for the fall below the threshold

module _ (cycle b : ℕ) (c : Core) (a : Arrays) (few : c.flight.count ≤ fifo_bytes) {c₁ : Core} {a₁ : Arrays} {reply : Write} {m : Notices}
    (x : Accesses (λ r. r) (send_byte cycle b (abs c a)) c₁ a₁ reply m) where
  -- the byte joins
  joins : abs c₁ a₁ ≡ with_in_flight (joined cycle b (abs c a)) (abs c a)
  unfolding send_byte sent
  joins =
      x.state
      ∙ ap (λ (y : Access Write ℕ ℕ). y.state)
      (choose-false (dropped (abs c a)) (sent cycle b (abs c a)) (le-ltb fifo_bytes (length (abs c a).in_flight)
      (omega (arith, flying c a, few))))

  pub one-flying : c₁.flight.count ≡ c.flight.count + 1
  one-flying =
      let l = length-append (abs c a).in_flight (record { gone_at = _; byte = b } ∷ []) in
      sym (flying c₁ a₁) ∙ ap (λ (u : State.Uart ℕ ℕ). length u.in_flight) joins ∙ l ∙ ap (λ (n : ℕ). n + 1) (flying c a)

  pub none_left : c₁.tx.count ≡ c.tx.count
  none_left = sym (left c₁ a₁) ∙ ap (λ (u : State.Uart ℕ ℕ). length u.tx) joins ∙ left c a

  pub same-period : c₁.control.period ≡ c.control.period
  same-period = ap (λ (u : State.Uart ℕ ℕ). u.control.period) x.state ∙ send-period cycle b (abs c a)

  -- the state armed for the fall below the threshold
  abbrev armed_below : State.Uart ℕ ℕ → State.Uart ℕ ℕ
  armed_below u =
      with_control (with_wake (earliest u.control.wake (in_cycles (below_threshold_at (empty_threshold u.control.words.conf1)
      u.in_flight))) u.control) u

  pub next-state : {c₂ : Core} → c₂ ≡ with_wake_of (wake_below c₁ a₁) c₁ → abs c₂ a₁ ≡ Next.next cycle b (abs c a)
  next-state e = ap (λ (v : Core). abs v a₁) e ∙ ap armed_below joins

  pub next-shape : {c₂ : Core} → c₂ ≡ with_wake_of (wake_below c₁ a₁) c₁ → Shape c₂ a₁
  next-shape e = subst (λ (v : Core). Shape v a₁) (sym e) (shape_of c₁ a₁ _ x.shape)

-- ---- the loop

pub room_at : {c : Core} {dates flight bytes : List ℕ} {from from' n n' : ℕ} → from ≡ from' → n ≡ n' → Room c dates flight bytes from n
    → Room c dates flight bytes from' n'
room_at ef en r =
    record { shape = r.shape; period = r.period; room = omega (arith, r.room, en); given = omega (arith, r.given, ef, en) }

pub room_next : (cycle b : ℕ) {c : Core} {dates flight bytes : List ℕ} {from n : ℕ} → Room c dates flight bytes from (suc n)
    → {c₁ : Core} {dates' flight' : List ℕ} {reply : Write} {m : Notices}
    → Accesses (λ r. r) (send_byte cycle b (abs c (around dates flight))) c₁ (around dates' flight') reply m
    → {c₂ : Core} → c₂ ≡ with_wake_of (wake_below c₁ (around dates' flight')) c₁ → Room c₂ dates' flight' bytes (suc from) n
room_next cycle b {c} {dates} {flight} r {c₁} {dates'} {flight'} x e =
    let few : c.flight.count ≤ fifo_bytes = omega (arith, r.room) in
    record {
      shape = next-shape cycle b c (around dates flight) few x e;
      period = omega (arith, r.period, same-period cycle b c (around dates flight) few x, ap (λ (v : Core). v.control.period) e);
      room = omega (arith, r.room, one-flying cycle b c (around dates flight) few x, ap (λ (v : Core). v.flight.count) e);
      given = omega (arith, r.given);
    }

pub filled_none : (cycle : ℕ) (bytes : List ℕ) (from n : ℕ) (c : Core) (a : Arrays) → Before cycle n c a → Filled cycle bytes from 0 c a c a
filled_none cycle bytes from n c a k = record {
  shape = k.shape;
  within = k.within;
  still = λ s. s.0;
  flight = omega arith;
  tx = refl;
  wrote = λ bs u₀ p o d f w.
      wrote_at cycle bs (let e : from ≡ from + 0 = omega arith in e) (let e : p ≡ p + 0 = omega arith in e) refl refl w;
}

pub filled_next : (cycle : ℕ) (bytes : List ℕ) (from n i : ℕ) {c : Core} {a : Arrays} → Before cycle n c a → i < n
    → c.flight.count + n ≤ 129
    → {cᵢ : Core} {aᵢ : Arrays} → Filled cycle bytes from i c a cᵢ aᵢ
    → {c₁ : Core} {a₁ : Arrays} {reply : Write} {m : Notices}
    → Accesses (λ r. r) (send_byte cycle (get_or bytes (from + i) 0) (abs cᵢ aᵢ)) c₁ a₁ reply m
    → {c₂ : Core} → c₂ ≡ with_wake_of (wake_below c₁ a₁) c₁ → Filled cycle bytes from (i + 1) c a c₂ a₁
unfolding transmit_full
filled_next cycle bytes from n i {c} {a} k less room {cᵢ} {aᵢ} f {c₁} {a₁} x {c₂} e =
    let b = get_or bytes (from + i) 0 in
    let few : cᵢ.flight.count ≤ fifo_bytes = omega (arith, f.flight, room, less) in
    let some : 1 ≤ n = omega (arith, less) in
    let still : Still cycle (abs cᵢ aᵢ) = f.still (k.still some) in
    let free : transmit_full (length (abs cᵢ aᵢ).tx) (length (abs cᵢ aᵢ).in_flight) ≡ false =
    lt-leb 1152 (length (abs cᵢ aᵢ).tx + length (abs cᵢ aᵢ).in_flight)
    (omega (arith, left cᵢ aᵢ, flying cᵢ aᵢ, f.flight, f.tx, k.sent, less)) in
    let flies : 1 ≤ length (abs cᵢ aᵢ).in_flight = omega (arith, flying cᵢ aᵢ, f.flight, (k.still some).1) in
    let low : length (abs cᵢ aᵢ).in_flight ≤ fifo_bytes = omega (arith, flying cᵢ aᵢ, few) in
    let same = next-state cycle b cᵢ aᵢ few x e in
    record {
      shape = next-shape cycle b cᵢ aᵢ few x e;
      within = subst Within (sym same) (quick-within cycle b (abs cᵢ aᵢ) k.early free still f.within flies low);
      still = λ _. subst (Still cycle) (sym same) (quick-still cycle b (abs cᵢ aᵢ) k.early free still f.within flies);
      flight = omega (arith, f.flight, one-flying cycle b cᵢ aᵢ few x, ap (λ (v : Core). v.flight.count) e);
      tx = ap (λ (v : Core). v.tx.count) e ∙ none_left cycle b cᵢ aᵢ few x ∙ f.tx;
      wrote = λ bs u₀ p o d g w.
          let so = f.wrote bs u₀ p o d (λ j h. g j (omega (arith, h))) w in
          wrote_at cycle bs (let q : suc (from + i) ≡ from + (i + 1) = omega arith in q)
          (let q : p + i + 1 ≡ p + (i + 1) = omega arith in q) refl refl
          (subst (λ (v : State.Uart ℕ ℕ). Wrote cycle bs u₀ v (suc (from + i)) (p + i + 1) o d) (sym same)
          (quick-sent cycle bs k.early so free still (g i (omega arith)) f.within flies low));
    }

-- ---- the same of what the code knows: whatever stands in the other arrays

abbrev pub FilledSo : ℕ → List ℕ → ℕ → ℕ → Core → List ℕ → List ℕ → ℕ → Core → List ℕ → List ℕ → Type 0
FilledSo cycle bytes from n c dates flight i cᵢ datesᵢ flightᵢ =
    (a : Arrays) → a.gone_at ≡ dates → a.flight ≡ flight → Before cycle n c a
    → Filled cycle bytes from i c a cᵢ (flying_in datesᵢ flightᵢ a)

pub fills-none : (cycle : ℕ) (bytes : List ℕ) (from n : ℕ) (c : Core) (dates flight : List ℕ)
    → FilledSo cycle bytes from n c dates flight 0 c dates flight
fills-none cycle bytes from n c dates flight = λ a eg ef k. rw (← eg, ← ef) (filled_none cycle bytes from n c a k)

abbrev ArmsBelow : Core → List ℕ → Core → Type 0
ArmsBelow c dates c' = (a : Arrays) → a.gone_at ≡ dates → c' ≡ with_wake_of (wake_below c a) c

fills-next : (cycle : ℕ) (bytes : List ℕ) (from n i : ℕ) (c : Core) (dates flight : List ℕ) → Room c dates flight bytes from n → i < n
    → (cᵢ : Core) (datesᵢ flightᵢ : List ℕ) → Room cᵢ datesᵢ flightᵢ bytes (from + i) (n - i)
    → FilledSo cycle bytes from n c dates flight i cᵢ datesᵢ flightᵢ
    → {c₁ : Core} {dates' flight' : List ℕ} {reply : Write} {m : Notices}
    → SendsAny cycle (get_or bytes (from + i) 0) cᵢ datesᵢ flightᵢ c₁ dates' flight' reply m → {c₂ : Core} → ArmsBelow c₁ dates' c₂
    → (i + 1 ≤ n) × Room c₂ dates' flight' bytes (from + (i + 1)) (n - (i + 1))
    × FilledSo cycle bytes from n c dates flight (i + 1) c₂ dates' flight'
fills-next cycle bytes from n i c dates flight r less cᵢ datesᵢ flightᵢ rᵢ f {dates' = dates'} {flight' = flight'} sends arms =
    let b = get_or bytes (from + i) 0 in (
      omega (arith, less),
      room_at (let e : suc (from + i) ≡ from + (i + 1) = omega arith in e) refl
          (room_next cycle b {c = cᵢ} {dates = datesᵢ} {flight = flightᵢ}
          (room_at refl (let e : n - i ≡ suc (n - (i + 1)) = omega (arith, less) in e) rᵢ)
          (sends (around datesᵢ flightᵢ) refl refl rᵢ.shape) (arms (around dates' flight') refl)),
      λ a eg ef k.
          let g = f a eg ef k in
          filled_next cycle bytes from n i k less r.room g (sends (flying_in datesᵢ flightᵢ a) refl refl g.shape)
          (arms (flying_in dates' flight' a) refl),
    )

-- ---- the same of what changes: the cursor, the wake and the slots

-- the core with these
abbrev pub flying_by : Cursor → Date → Core → Core
flying_by f w c = with_wake_of w (with_flight_of f c)

module _ (c : Core) (f : Cursor) (w : Date) {dates flight bytes : List ℕ} {from n : ℕ}
    (r : Room (flying_by f w c) dates flight bytes from n)
    (some : 1 ≤ n) {f' : Cursor} (e : f' ≡ pushed f) where
  -- what arming asks
  pub longer-held : (slot date : ℕ) → Held 129 f' × (length (set dates slot date) ≡ 129)
  longer-held slot date = (
    rw e (push-held 129 f r.shape.flight 1 (omega (arith, r.room, some))),
    simp length-set r.shape.gone_at_slots,
  )

pub joins-next : (cycle : ℕ) (bytes : List ℕ) (from n i : ℕ) (c : Core) (dates flight : List ℕ) → Room c dates flight bytes from n → i < n
    → (f : Cursor) (w : Date) (datesᵢ flightᵢ : List ℕ) → Room (flying_by f w c) datesᵢ flightᵢ bytes (from + i) (n - i)
    → FilledSo cycle bytes from n c dates flight i (flying_by f w c) datesᵢ flightᵢ
    → {start takes date slot : ℕ} {f' : Cursor} {w' : Date}
    → start ≡ subcycles cycle → takes ≡ byte_time c.control.words c.control.period
    → slot ≡ back_of 129 f → ((bs : List ℕ) → date ≡ gone_after start takes (flight_of datesᵢ bs f)) → f' ≡ pushed f
    → WakesBelow w c.control.words.conf1 f' (set datesᵢ slot date) w'
    → (i + 1 ≤ n) × Room (flying_by f' w' c) (set datesᵢ slot date) (set flightᵢ slot (get_or bytes (from + i) 0)) bytes
    (from + (i + 1)) (n - (i + 1))
    × FilledSo cycle bytes from n c dates flight (i + 1) (flying_by f' w' c) (set datesᵢ slot date)
    (set flightᵢ slot (get_or bytes (from + i) 0))
joins-next cycle bytes from n i c dates flight r less f w datesᵢ flightᵢ rᵢ fᵢ {date = date} {f' = f'} es et back dated next wakes =
    let free : false ≡ ltb fifo_bytes f.count = sym (le-ltb fifo_bytes f.count (omega (arith, rᵢ.room, less))) in
    let gone : (bs : List ℕ) → date ≡ gone_at_of cycle c.control (flight_of datesᵢ bs f) = λ bs.
    dated bs ∙ ap₂ (λ (s t : ℕ). gone_after s t (flight_of datesᵢ bs f)) es et in
    fills-next cycle bytes from n i c dates flight r less (flying_by f w c) datesᵢ flightᵢ rᵢ fᵢ
    (sends-any cycle (get_or bytes (from + i) 0) (flying_by f w c) datesᵢ flightᵢ {full = false} free refl gone back refl next)
    (λ a eg. ap (λ (v : Date). flying_by f' v c) (wakes a eg))

pub fills-all : (cycle : ℕ) (bytes : List ℕ) (from n i : ℕ) (c : Core) (dates flight : List ℕ) (c' : Core) (dates' flight' : List ℕ)
    → i ≤ n → n ≤ i
    → FilledSo cycle bytes from n c dates flight i c' dates' flight' → FilledSo cycle bytes from n c dates flight n c' dates' flight'
fills-all cycle bytes from n i c dates flight c' dates' flight' le ge f =
    let e : i ≡ n = omega arith in
    subst (λ (k : ℕ). FilledSo cycle bytes from n c dates flight k c' dates' flight') e f
