-- A byte written to FIFO joins those in flight, from the core and the slots of the bytes in flight and of their dates.
-- Assumes nothing.
use Rattle.std.specs.Prelude.{◌≡◌, Bool, true, length, set, Ok, Err}
use Rattle.std.proofs.Math.Path.{refl, sym, ap, subst}
use Rattle.std.proofs.Common.{ap₂, ◌∙◌, arith}
use Rattle.std.proofs.Math.Bool.{false}
use Rattle.std.proofs.Math.Option.{Option}
use mathlib.Core.List.{List, [], ◌∷◌, ◌++◌}
use Prim.Native.Nat.{ℕ, ◌<◌}
use Rattle.std.proofs.Math.Dec.{ltb}
use Rattle.std.proofs.Math.ListN.{length-set}
use borrow.Author.Tests.{ltb-false}
use Rattle.dates.specs.Dates.{after, subcycles}
use Rattle.model.specs.State
use Rattle.model.specs.State.{Sent}
use Rattle.model.specs.Setters.{with_in_flight}
use Rattle.model.specs.Timing.{byte_time, unmodelled_source}
use Rattle.model.specs.Line.{fifo_bytes}
use Rattle.model.specs.Arm.{last_gone}
use Rattle.model.specs.Registers.{Access, source_notes, starts_at, gone_at, sent, dropped, send_byte}
use Rattle.model.specs.Calls
use Rattle.model.specs.Calls.{unless, carried}
use Rattle.model.proofs.Laws.Choose.{choose-true, choose-false, choose-ind}
use Rattle.model.specs.declared.Control.{Control}
use Rattle.model.specs.Names.{Write}
use Rattle.model.specs.declared.Unsupported.TheVariants.{UartOverflow, UartClock}
use Rattle.queue.specs.Cursors.{slot_of, back_of, pushed}
use Rattle.queue.specs.Laws.{elems-length, push-held, back_low}
use Rattle.queue.specs.Stores.{Stored, set-stored, both, push-elems}
use Rattle.queue.specs.declared.Cursor.{Cursor}
use Rattle.replies.specs.Calls.{send-tests}
use Rattle.replies.specs.Refusals.{sending}
use Rattle.replies.specs.Notices.{noted}
use Rattle.replies.specs.declared.notices.Notices.{Notices}
use Rattle.device.specs.Holds.{Arrays, sent_at, flight_of, abs, Shape, Valid}
use Rattle.device.specs.declared.Core.{Core}
use Rattle.calls.specs.Answers.{dated_call, Accesses}
use Rattle.calls.specs.Queues.{with_queues_of, flying_in, queues-shape}

-- when a byte that takes so long has gone, from a date and those in flight
abbrev pub gone_after : ℕ → ℕ → List (Sent ℕ) → ℕ
gone_after date takes flying = after (starts_at date (last_gone flying)) takes

-- when a byte written now has gone, from the control and those in flight
abbrev pub gone_at_of : ℕ → Control → List (Sent ℕ) → ℕ
gone_at_of cycle v flying = gone_after (subcycles cycle) (byte_time v.words v.period) flying

-- whatever stands in the other arrays, which a FIFO write does not touch
abbrev pub SendsAny : ℕ → ℕ → Core → List ℕ → List ℕ → Core → List ℕ → List ℕ → Write → Notices → Type 0
SendsAny cycle b c dates bytes c' dates' bytes' reply m =
    (a : Arrays) → a.gone_at ≡ dates → a.flight ≡ bytes → Shape c a
    → Accesses (λ x. x) (send_byte cycle b (abs c a)) c' (flying_in dates' bytes' a) reply m

-- the core with another cursor for the bytes in flight
abbrev pub with_flight_of : Cursor → Core → Core
with_flight_of v c = with_queues_of v c.rx c

module _ (cycle b : ℕ) (c : Core) (a : Arrays) (k : Shape c a) where
  flying : length (abs c a).in_flight ≡ c.flight.count
  flying = elems-length (sent_at a.gone_at a.flight) 129 c.flight

  -- over 128 bytes in flight: dropped
  dropped-accesses : ltb fifo_bytes c.flight.count ≡ true → {m : Notices} → m ≡ noted (UartOverflow ∷ [])
      → Accesses (λ x. x) (send_byte cycle b (abs c a)) c a (Ok true) m
  unfolding send_byte dropped
  dropped-accesses full {m} e =
      subst (λ (x : Access Write ℕ ℕ). Accesses (λ w. w) x c a (Ok true) m)
      (sym (choose-true (dropped (abs c a)) (sent cycle b (abs c a)) (ap (ltb fifo_bytes) flying ∙ full)))
      (record { shape = k; replies = refl; notes = e; state = refl })

  -- else it stands at the back, with its date
  module _ {date slot : ℕ} (dated : date ≡ gone_at cycle (abs c a)) (back : slot ≡ back_of 129 c.flight)
      (room : c.flight.count < 129) where
    -- the slots with the new byte and its date
    abbrev dates : List ℕ
    dates = set a.gone_at slot date

    abbrev bytes : List ℕ
    bytes = set a.flight slot b

    low : slot < 129
    low = rw back (back_low 129 c.flight k.flight)

    longer : flight_of dates bytes (pushed c.flight) ≡ (abs c a).in_flight ++ (record { gone_at = gone_at cycle (abs c a); byte = b } ∷ [])
    longer =
        let at : Stored slot (record { gone_at = date; byte = b }) (sent_at a.gone_at a.flight) (sent_at dates bytes) =
        both {C = Sent ℕ} (λ d w. record { gone_at = d; byte = w }) slot
        (set-stored a.gone_at 0 slot date (omega (arith, low, k.gone_at_slots)))
        (set-stored a.flight 0 slot b (omega (arith, low, k.flight_slots)))
        in
        push-elems (sent_at a.gone_at a.flight) (sent_at dates bytes) 129 c.flight k.flight _ room
        (subst (λ (n : ℕ). Stored n (record { gone_at = date; byte = b }) (sent_at a.gone_at a.flight) (sent_at dates bytes)) back at)
        ∙ ap (λ (d : ℕ). (abs c a).in_flight ++ (record { gone_at = d; byte = b } ∷ [])) dated

    sent-accesses : ltb fifo_bytes c.flight.count ≡ false → {m : Notices}
        → m ≡ noted (source_notes UartClock (unmodelled_source c.control.words.clk_conf))
        → Accesses (λ x. x) (send_byte cycle b (abs c a)) (with_flight_of (pushed c.flight) c) (flying_in dates bytes a) (Ok true) m
    unfolding send_byte sent
    sent-accesses some {m} e =
        subst (λ (x : Access Write ℕ ℕ). Accesses (λ w. w) x (with_flight_of (pushed c.flight) c) (flying_in dates bytes a)
        (Ok true) m)
        (sym (choose-false (dropped (abs c a)) (sent cycle b (abs c a)) (ap (ltb fifo_bytes) flying ∙ some)))
        (record {
          shape =
              queues-shape c a k (push-held 129 c.flight k.flight 1 (omega arith)) k.rx (simp length-set k.gone_at_slots)
              (simp length-set k.flight_slots);
          replies = refl;
          notes = e;
          state = ap (λ (l : List (Sent ℕ)). with_in_flight l (abs c a)) longer;
        })

-- ---- for whatever stands in the other arrays

module _ (cycle b : ℕ) (c : Core) (dates bytes : List ℕ) {full : Bool} (tested : full ≡ ltb fifo_bytes c.flight.count)
    {m : Notices} where
  pub drops-any : full ≡ true → m ≡ noted (UartOverflow ∷ []) → SendsAny cycle b c dates bytes c dates bytes (Ok true) m
  drops-any over e = λ a ed eb k. rw (← ed, ← eb) (dropped-accesses cycle b c a k (sym tested ∙ over) e)

  pub sends-any : full ≡ false → {date slot : ℕ} → ((w : List ℕ) → date ≡ gone_at_of cycle c.control (flight_of dates w c.flight))
      → slot ≡ back_of 129 c.flight
      → m ≡ noted (source_notes UartClock (unmodelled_source c.control.words.clk_conf)) → {flight : Cursor}
      → flight ≡ pushed c.flight
      → SendsAny cycle b c dates bytes (with_flight_of flight c) (set dates slot date) (set bytes slot b) (Ok true) m
  unfolding gone_at
  sends-any some {date} {slot} dated back e {flight} next = λ a ed eb k.
      let free : ltb fifo_bytes c.flight.count ≡ false = sym tested ∙ some in
      let gone : date ≡ gone_at cycle (abs c a) = dated a.flight
      ∙ ap (λ (d : List ℕ). gone_at_of cycle c.control (flight_of d a.flight c.flight)) (sym ed) in
      rw (next, ← ed, ← eb) (sent-accesses cycle b c a k gone back (omega (arith, ltb-false fifo_bytes c.flight.count free)) free e)

-- ---- the tests of a FIFO write, from the numbers of the queues

pub send-checks : (cycle b : ℕ) {c : Core} {a : Arrays} → Valid c a
    → dated_call cycle (Calls.send cycle b) (abs c a)
    ≡ unless (sending cycle c.control.last c.tx.count c.flight.count) Err
    (carried (Option.some cycle) (Calls.send cycle b (abs c a))) (abs c a)
send-checks cycle b {c} {a} ok =
    send-tests cycle (abs c a) b
    ∙ ap₂ (λ (n k : ℕ). unless (sending cycle c.control.last n k) Err
    (carried (Option.some cycle) (Calls.send cycle b (abs c a))) (abs c a))
    (elems-length (slot_of a.tx 0) 1152 c.tx) (elems-length (sent_at a.gone_at a.flight) 129 c.flight)

-- ---- the period stays, so that the wake can be armed

pub send-period : (cycle b : ℕ) (u : State.Uart ℕ ℕ) → (send_byte cycle b u).state.control.period ≡ u.control.period
unfolding send_byte dropped sent
send-period cycle b u = choose-ind (λ (x : Access Write ℕ ℕ). x.state.control.period ≡ u.control.period) _ (λ _. refl) (λ _. refl)
