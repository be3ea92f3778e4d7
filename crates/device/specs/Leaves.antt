-- Departures over the slots. Assumes nothing.
use Rattle.std.specs.Prelude.{◌≡◌, refl, List, [], ◌∷◌, ◌++◌, map, ℕ, suc, ◌+◌, ◌<◌, ◌≤◌, length, take, drop, get_or, set}
use Rattle.std.proofs.Math.Path.{ap}
use Rattle.std.proofs.Common.{sym, ◌∙◌, append-nil, append_assoc, arith, length-set, drop-drop, take-add}
use borrow.Author.Tests.{le-leb, lt-leb}
use Rattle.model.specs.State.{Sent}
use Rattle.model.specs.Settle.{gone}
use Rattle.queue.specs.Cursors.{Held, slot_of, back_of, pushed, popped}
use Rattle.queue.specs.Laws.{push-held, pop-held, pop-elems, first-elems, elems-none, back_low}
use Rattle.queue.specs.Stores.{set-stored, push-elems}
use Rattle.queue.specs.declared.Cursor.{Cursor}
use Rattle.device.specs.Holds.{sent_at, flight_of, tx_of}

-- ---- how many have gone

module _ (date : ℕ) (dates bytes : List ℕ) (c : Cursor) where
  pub gone-none : c.count ≤ 0 → gone date (flight_of dates bytes c) ≡ 0
  unfolding gone
  gone-none h = ap (gone date) (elems-none (sent_at dates bytes) 129 c (omega arith))

  module _ (h : Held 129 c) (pos : 0 < c.count) where
    pub gone-later : date < get_or dates c.start 0 → gone date (flight_of dates bytes c) ≡ 0
    unfolding gone
    gone-later l = ap (gone date) (first-elems (sent_at dates bytes) 129 c h pos) ∙ rw (gone, lt-leb _ _ l)

    pub gone-first : get_or dates c.start 0 ≤ date
        → gone date (flight_of dates bytes c) ≡ suc (gone date (flight_of dates bytes (popped 129 c)))
    unfolding gone
    gone-first l = ap (gone date) (first-elems (sent_at dates bytes) 129 c h pos) ∙ rw (gone, le-leb _ _ l)

-- ---- n bytes leave

-- from the cursors and slots before to those after
pub record Leaves (n : ℕ) (bytes : List ℕ) (flight tx : Cursor) (left : List ℕ) (flight' tx' : Cursor) (left' : List ℕ) : Type 0 where
  pub flight_held : Held 129 flight'
  pub tx_held : Held 1152 tx'
  pub slots : length left' ≡ 1152
  pub fewer : flight'.count + n ≡ flight.count
  pub more : tx'.count ≡ tx.count + n
  pub rest : (dates : List ℕ) → flight_of dates bytes flight' ≡ drop n (flight_of dates bytes flight)
  pub out : (dates : List ℕ) → tx_of left' tx' ≡ tx_of left tx ++ map (λ s. s.byte) (take n (flight_of dates bytes flight))

pub leaves_none : (bytes : List ℕ) (flight tx : Cursor) (left : List ℕ) → Held 129 flight → Held 1152 tx → length left ≡ 1152
    → Leaves 0 bytes flight tx left flight tx left
leaves_none bytes flight tx left f t l = record {
  flight_held = f;
  tx_held = t;
  slots = l;
  fewer = omega arith;
  more = omega arith;
  rest = λ dates. refl;
  out = λ dates. sym (append-nil (tx_of left tx));
}

-- the first has left, and its byte stands behind those that left before
first-leaves : (bytes dates : List ℕ) (flight tx : Cursor) (left : List ℕ) → Held 129 flight → Held 1152 tx
    → length left ≡ 1152 → 0 < flight.count → tx.count < 1152
    → tx_of (set left (back_of 1152 tx) (get_or bytes flight.start 0)) (pushed tx)
    ≡ tx_of left tx ++ map (λ s. s.byte) (take 1 (flight_of dates bytes flight))
first-leaves bytes dates flight tx left f t l pos room =
    push-elems (slot_of left 0) _ 1152 tx t (get_or bytes flight.start 0) room
    (set-stored left 0 (back_of 1152 tx) _ (rw l (back_low 1152 tx t)))
    ∙ ap (λ (ss : List (Sent ℕ)). tx_of left tx ++ map (λ s. s.byte) (take 1 ss)) (sym (first-elems (sent_at dates bytes) 129 flight f pos))

map-append : {A B : Type 0} (f : A → B) (s t : List A) → map f (s ++ t) ≡ map f s ++ map f t
map-append f [] t = refl
map-append {A} {B} f (a ∷ s) t = ap (λ (r : List B). f a ∷ r) (map-append f s t)

-- one more leaves
pub leaves-more : {n : ℕ} {bytes : List ℕ} {flight tx : Cursor} {left : List ℕ} {flight' tx' : Cursor} {left' : List ℕ}
    → Leaves n bytes flight tx left flight' tx' left' → 0 < flight'.count → tx'.count < 1152
    → Leaves (n + 1) bytes flight tx left (popped 129 flight') (pushed tx') (set left' (back_of 1152 tx') (get_or bytes flight'.start 0))
leaves-more {n} {bytes} {flight} {tx} {left} {flight'} {tx'} {left'} k pos room = record {
  flight_held = pop-held 129 flight' k.flight_held;
  tx_held = push-held 1152 tx' k.tx_held 1 (omega arith);
  slots = length-set left' _ _ ∙ k.slots;
  fewer = omega (arith, k.fewer);
  more = omega (arith, k.more);
  rest =
      λ dates. pop-elems (sent_at dates bytes) 129 flight' k.flight_held ∙ ap (drop 1) (k.rest dates)
      ∙ drop-drop 1 n (flight_of dates bytes flight);
  out = λ dates.
      first-leaves bytes dates flight' tx' left' k.flight_held k.tx_held k.slots pos room
      ∙ rw (k.out dates, k.rest dates, take-add n 1 (flight_of dates bytes flight), map-append, append_assoc);
}
