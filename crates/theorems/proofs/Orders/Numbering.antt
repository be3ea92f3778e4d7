-- An order with the numbers of its bytes in their place: the bytes looked up give it back, and alike orders have one numbering.
-- Assumes nothing.
use Rattle.std.specs.Prelude.{◌≡◌, get_or}
use Rattle.std.proofs.Math.Path.{refl, sym, ap, ap₂}
use Rattle.std.proofs.Common.{◌∙◌, suc-ne-zero}
use Prim.Native.Nat.{ℕ, ◌+◌}
use Rattle.std.proofs.Math.Option.{Option, none, some}
use mathlib.Core.List.{List, [], ◌∷◌, ◌++◌, map, map-id, append_assoc}
use Rattle.std.proofs.Math.ListN.{length, drop}
use Rattle.model.specs.State.{Sent, OnTheLine, Uart, line_bytes}
use Rattle.model.specs.Calls.{written}
use Rattle.model.proofs.Laws.Placed.{placed_asked}
use Rattle.form.specs.Load.{Loading, loaded, refused, load}
use Rattle.form.specs.Orders.{Order, LoadOf, CallersOrder}
use Rattle.theorems.specs.TwoRuns.Renamed.{map_sent, map_receiving, map_uart, itself, forget}
use Rattle.theorems.proofs.TwoRuns.Numbering.{up_from, numbered_asked, head-back, up_from-back, past, asked-back}
use Rattle.theorems.proofs.TwoRuns.Numbering.{host-of-placed, written-of-placed}
use Rattle.theorems.specs.Orders.Renamed.{map_loading, LoadFrom, PlacedOrder, map_from, map_order}
use Rattle.theorems.specs.Orders.Alike.{host_bytes, loaded_host, loaded_written, order_host, order_written}

-- ---- a state with numbers

unfoldable pub numbered_flight : {W : Type 0} → ℕ → List (Sent W) → List (Sent ℕ)
numbered_flight n [] = []
numbered_flight n (s ∷ ss) = record { gone_at = s.gone_at; byte = n } ∷ numbered_flight (n + 1) ss

-- the byte on the line, those that wait and those received have numbers from h on, the bytes that left and those in flight from w on
unfoldable pub numbered_uart : {H W : Type 0} → ℕ → ℕ → Uart H W → Uart ℕ ℕ
numbered_uart h w u = record {
  map = u.map;
  control = u.control;
  in_flight = numbered_flight (w + length u.tx) u.in_flight;
  tx = up_from w (length u.tx);
  host = up_from (h + length (line_bytes u.receiving)) (length u.host);
  host_runs = u.host_runs;
  receiving = map_receiving (λ b. h) u.receiving;
  rx = up_from (h + length (line_bytes u.receiving) + length u.host) (length u.rx);
}

unfoldable pub numbered_loading : {H W : Type 0} → ℕ → ℕ → Loading H W → Loading ℕ ℕ
numbered_loading h w (loaded u) = loaded (numbered_uart h w u)
numbered_loading h w (refused r) = refused r

-- ---- an order with numbers

unfoldable pub placed_order : List ℕ → CallersOrder → PlacedOrder ℕ ℕ ℕ
placed_order offsets (Order.ask a) = Order.ask (placed_asked offsets a)
placed_order offsets (Order.to_save lent) = Order.to_save lent
placed_order offsets (Order.to_load (LoadOf.bytes bs)) = Order.to_load (LoadFrom.given (load bs))
placed_order offsets (Order.to_load (LoadOf.save k)) = Order.to_load (LoadFrom.save k)

unfoldable pub numbered_order : List ℕ → ℕ → ℕ → CallersOrder → PlacedOrder ℕ ℕ (Unit {0})
numbered_order offsets h w (Order.ask a) = Order.ask (numbered_asked h w (placed_asked offsets a))
numbered_order offsets h w (Order.to_save lent) = Order.to_save (map forget lent)
numbered_order offsets h w (Order.to_load (LoadOf.bytes bs)) = Order.to_load (LoadFrom.given (numbered_loading h w (load bs)))
numbered_order offsets h w (Order.to_load (LoadOf.save k)) = Order.to_load (LoadFrom.save k)

-- ---- the bytes looked up by their numbers give it back

sent-itself : (ss : List (Sent ℕ)) → map (map_sent itself) ss ≡ ss
sent-itself [] = refl
sent-itself (s ∷ ss) = ap (λ l. s ∷ l) (sent-itself ss)

receiving-itself : (r : Option (OnTheLine ℕ)) → map_receiving itself r ≡ r
unfolding map_receiving
receiving-itself none = refl
receiving-itself (some l) = refl

pub uart-itself : (u : Uart ℕ ℕ) → map_uart itself itself u ≡ u
uart-itself u =
    rw (sent-itself u.in_flight, map-id u.tx, map-id u.host, receiving-itself u.receiving, map-id u.rx) refl

module _ (hs ws : List ℕ) where
  abbrev f : ℕ → ℕ
  f n = get_or hs n 0

  abbrev g : ℕ → ℕ
  g n = get_or ws n 0

  flight-back : (n : ℕ) (ss : List (Sent ℕ)) (rest : List ℕ) → drop n ws ≡ map (λ s. s.byte) ss ++ rest
      → map (map_sent g) (numbered_flight n ss) ≡ ss
  unfolding numbered_flight
  flight-back n [] rest e = refl
  flight-back n (s ∷ ss) rest e =
      ap₂ (λ (b : ℕ) l. record { gone_at = s.gone_at; byte = b } ∷ l) (head-back 0 ws n s.byte (map (λ t. t.byte) ss ++ rest) e)
      (flight-back (n + 1) ss rest (past 0 ws n (s.byte ∷ []) (map (λ t. t.byte) ss ++ rest) e))

  receiving-back : (n : ℕ) (r : Option (OnTheLine ℕ)) (rest : List ℕ) → drop n hs ≡ line_bytes r ++ rest
      → map_receiving f (map_receiving (λ b. n) r) ≡ r
  unfolding map_receiving
  receiving-back n none rest e = refl
  receiving-back n (some l) rest e = ap (λ (b : ℕ). some (record { byte = b; frame = l.frame })) (head-back 0 hs n l.byte rest e)

  pub uart-back : (h w : ℕ) (u : Uart ℕ ℕ) (r s : List ℕ) → drop h hs ≡ host_bytes u ++ r → drop w ws ≡ written u ++ s
      → map_uart f g (numbered_uart h w u) ≡ u
  unfolding numbered_uart written
  uart-back h w u r s p q =
      let line : List ℕ = line_bytes u.receiving in
      let flying : List ℕ = map (λ t. t.byte) u.in_flight in
      let at-line : drop h hs ≡ line ++ (u.host ++ (u.rx ++ r)) =
      p ∙ append_assoc line (u.host ++ u.rx) r ∙ ap (λ l. line ++ l) (append_assoc u.host u.rx r) in
      let at-host = past 0 hs h line (u.host ++ (u.rx ++ r)) at-line in
      let at-rx = past 0 hs (h + length line) u.host (u.rx ++ r) at-host in
      let at-tx : drop w ws ≡ u.tx ++ (flying ++ s) = q ∙ append_assoc u.tx flying s in
      rw (
        flight-back (w + length u.tx) u.in_flight s (past 0 ws w u.tx (flying ++ s) at-tx),
        up_from-back 0 ws w u.tx (flying ++ s) at-tx,
        up_from-back 0 hs (h + length line) u.host (u.rx ++ r) at-host,
        receiving-back h u.receiving (u.host ++ (u.rx ++ r)) at-line,
        up_from-back 0 hs (h + length line + length u.host) u.rx r at-rx,
      ) refl

  loading-back : (h w : ℕ) (l : Loading ℕ ℕ) (r s : List ℕ) → drop h hs ≡ loaded_host l ++ r → drop w ws ≡ loaded_written l ++ s
      → map_loading f g (numbered_loading h w l) ≡ map_loading itself itself l
  unfolding map_loading numbered_loading loaded_host loaded_written
  loading-back h w (loaded u) r s p q = ap loaded (uart-back h w u r s p q ∙ sym (uart-itself u))
  loading-back h w (refused x) r s p q = refl

  back-placed : (fifo : ℕ) (others : List ℕ) (h w : ℕ) (o : CallersOrder) (r s : List ℕ) → drop h hs ≡ order_host o ++ r
      → drop w ws ≡ order_written (fifo ∷ others) o ++ s
      → map_order f g itself (numbered_order (fifo ∷ others) h w o) ≡ map_order itself itself forget (placed_order (fifo ∷ others) o)
  unfolding map_order map_from numbered_order placed_order order_host order_written
  back-placed fifo others h w (Order.ask a) r s p q =
      ap Order.ask (asked-back 0 0 hs ws h w (placed_asked (fifo ∷ others) a) r s
      (p ∙ ap (λ l. l ++ r) (sym (host-of-placed (fifo ∷ others) a))) (q ∙ ap (λ l. l ++ s) (sym (written-of-placed fifo others a))))
  back-placed fifo others h w (Order.to_save lent) r s p q = ap Order.to_save (map-id (map forget lent))
  back-placed fifo others h w (Order.to_load (LoadOf.bytes bs)) r s p q =
      ap (λ l. Order.to_load (LoadFrom.given l)) (loading-back h w (load bs) r s p q)
  back-placed fifo others h w (Order.to_load (LoadOf.save k)) r s p q = refl

  pub order-back : (offsets : List ℕ) → length offsets ≡ 16 → (h w : ℕ) (o : CallersOrder) (r s : List ℕ) → drop h hs ≡ order_host o ++ r
      → drop w ws ≡ order_written offsets o ++ s
      → map_order f g itself (numbered_order offsets h w o) ≡ map_order itself itself forget (placed_order offsets o)
  order-back [] e h w o r s p q = absurd (suc-ne-zero _ (sym e))
  order-back (fifo ∷ others) e h w o r s p q = back-placed fifo others h w o r s p q
