-- Register access keeps a state within the limits: a read, a write to any register, a byte sent. Assumes nothing.
use Rattle.std.specs.Prelude.{◌≡◌, ℕ, ◌+◌, ◌≤◌, ◌<◌, Bool, take, Some, Err}
use Rattle.std.proofs.Math.Path.{refl, ap}
use Rattle.std.proofs.Common.{◌∙◌, zero-le, arith, length-append, length-take, leb-false, ltb-false}
use Rattle.std.proofs.Math.Nat.{min-le_right, le_of_suc-le, sub-zero, suc-sub-suc}
use Rattle.std.proofs.Math.Bool.{true, false}
use Rattle.std.proofs.Math.Option.{none, some}
use mathlib.Core.List.{List, [], ◌∷◌, ◌++◌, map-append}
use Rattle.std.proofs.Math.ListN.{length}
use Rattle.dates.specs.Dates.{after}
use Rattle.model.specs.State.{Sent, Uart}
use Rattle.model.specs.Line.{fifo_bytes}
use Rattle.model.specs.Arm.{nth_gone, last_gone}
use Rattle.model.specs.Replies.{refused}
use Rattle.model.specs.Map.{Register}
use Rattle.model.specs.Registers.{Access, looks, pop, read_looking, read_at, starts_at, gone_at, sent, dropped, send_byte}
use Rattle.model.specs.Registers.{reset_fifos, storing, clearing, write_register, concluded}
use Rattle.model.specs.Tests.{sent_limit, transmit_full}
use Rattle.model.specs.Calls
use Rattle.model.specs.Calls.{after_settling, outcome, carried, dated}
use Rattle.model.specs.Limits.{All, flight_dates, Fits}
use Rattle.model.proofs.Laws.Lists.{last_of, chain-take, chain_snoc, all_take, all_snoc, all-last, map-take}
use Rattle.model.proofs.Laws.Choose.{choose-ind}
use Rattle.model.specs.Plans.{settle_at}
use Rattle.model.proofs.Laws.AccessCases.{read_register-ind, write_register-ind}
use Rattle.model.proofs.Keeps.Parts.{FlightWithin, Parts, put_flight, put_rx}
use Rattle.model.proofs.Keeps.Kept.{Kept, settle-keeps}
use Rattle.model.proofs.Keeps.Settling.{levels-parts}
use Rattle.model.proofs.Keeps.Wake.{arm-parts}
use Rattle.model.proofs.Keeps.Dated.{not-refused, dated-parts, settle_at-parts}
use Rattle.model.specs.declared.Unsupported.{Unsupported}
use Rattle.model.specs.Names.{Write}

-- ---- the bytes in flight: one more behind, or the first alone

module _ {W : Type 0} where
  nth-last_of : (s : Sent W) (ss : List (Sent W)) → nth_gone (length ss) (s ∷ ss) ≡ Some (last_of (flight_dates (s ∷ ss)))
  unfolding nth_gone last_of
  nth-last_of s [] = refl
  nth-last_of s (t ∷ ss) = nth-last_of t ss

  pub last_gone-last_of : (s : Sent W) (ss : List (Sent W)) → last_gone (s ∷ ss) ≡ Some (last_of (flight_dates (s ∷ ss)))
  unfolding last_gone
  last_gone-last_of s ss = ap (λ (n : ℕ). nth_gone n (s ∷ ss)) (suc-sub-suc (length ss) 0 ∙ sub-zero (length ss)) ∙ nth-last_of s ss

  -- a byte starts after the last one in flight, so none goes before it
  pub sends-behind : (now span : ℕ) (ss : List (Sent W)) → All Fits (flight_dates ss) → 1 ≤ length (flight_dates ss)
      → last_of (flight_dates ss) ≤ after (starts_at now (last_gone ss)) span
  unfolding starts_at
  sends-behind now span [] a h = absurd (omega arith)
  sends-behind now span (s ∷ ss) a h = rw last_gone-last_of (omega (arith, all-last {P = Fits} (flight_dates (s ∷ ss)) (omega arith) a))

  sent-within : (d : ℕ) (b : W) (ss : List (Sent W)) (tx : List W) → Fits d → (1 ≤ length (flight_dates ss) → last_of (flight_dates ss) ≤ d)
      → length ss ≤ fifo_bytes → length tx + length ss < sent_limit → FlightWithin ss tx
      → FlightWithin (ss ++ (record { gone_at = d; byte = b } ∷ [])) tx
  sent-within d b ss tx f behind le room w = record {
    flying = rw length-append (omega arith);
    order = rw map-append (chain_snoc d (flight_dates ss) behind w.order);
    fit = rw map-append (all_snoc d (flight_dates ss) f w.fit);
    sent = rw length-append (omega arith);
  }

  take_within : (n : ℕ) (ss : List (Sent W)) (tx : List W) → FlightWithin ss tx → FlightWithin (take n ss) tx
  take_within n ss tx w = record {
    flying = rw length-take (omega arith);
    order = rw map-take (chain-take n (flight_dates ss) w.order);
    fit = rw map-take (all_take n (flight_dates ss) w.fit);
    sent = rw length-take (omega arith);
  }

module _ {H W : Type 0} where
  -- ---- read

  pop-parts : (ns : List Unsupported) (held : List H) (u : Uart H W) → length held ≤ fifo_bytes → Parts u → Parts (pop ns held u).state
  unfolding pop
  pop-parts ns [] u h p = p
  pop-parts ns (b ∷ bs) u h p = put_rx p (le_of_suc-le h)

  read_looking-parts : (looking : Bool) (at : Register) (u : Uart H W) → Parts u → Parts (read_looking looking at u).state
  unfolding read_looking
  read_looking-parts true at u p = read_register-ind (λ a. Parts a.state) _ _ (pop-parts _ u.rx _ p.rx p) (λ _. p) at
  read_looking-parts false at u p = read_register-ind (λ a. Parts a.state) _ u (pop-parts _ u.rx u p.rx p) (λ _. p) at

  pub read_placed-parts : (now : ℕ) (at : Register) (u : Uart H W) → Parts u
      → Parts (outcome (some now) (Calls.read_placed now at u) u).state
  unfolding outcome carried Calls.read_placed after_settling read_at
  read_placed-parts now at u p =
      dated-parts refused _ u p now none (λ h _. read_looking-parts (looks at) at (settle_at now u).state (settle_at-parts now u h p))

  -- ---- write

  concluded-parts : {R : Type 0} (a : Access R H W) → Parts a.state → Parts (concluded a).state
  unfolding concluded
  concluded-parts a p = arm-parts _ (levels-parts _ p)

  reset_fifos-parts : (v : ℕ) (u : Uart H W) → Parts u → Parts (reset_fifos v u)
  unfolding reset_fifos
  reset_fifos-parts v u p =
      put_rx (put_flight p (choose-ind (λ (ss : List (Sent W)). FlightWithin ss u.tx) _
      (λ _. take_within 1 u.in_flight u.tx p.flight) (λ _. p.flight)))
      (choose-ind (λ (held : List H). length held ≤ fifo_bytes) _ (λ _. zero-le) (λ _. p.rx))

  -- stored words and INT_RAW are free
  write_register-parts : (at : Register) (v : ℕ) (u : Uart H W) → Parts u → Parts (write_register at v u).state
  unfolding storing clearing
  write_register-parts at v u p = write_register-ind (λ _ a. Parts a.state) v u (λ _. p) p (λ _. reset_fifos-parts v u p) (λ _. p) at

  pub write_placed-parts : (now : ℕ) (at : Register) (v : ℕ) (u : Uart H W) → Parts u
      → Parts (outcome (some now) (Calls.write_placed now at v u) u).state
  unfolding outcome carried Calls.write_placed after_settling
  write_placed-parts now at v u p =
      let s : Uart H W = (settle_at now u).state in
      dated-parts Err _ u p now none
      (λ h _. concluded-parts (write_register at v s) (write_register-parts at v s (settle_at-parts now u h p)))

  -- ---- send

  -- test 4 reads the bytes before settling, which loses none
  send_byte-parts : (now : ℕ) (b : W) (u v : Uart H W) → Kept u v → transmit_full (length u.tx) (length u.in_flight) ≡ false → Parts v
      → Parts (send_byte now b v).state
  unfolding send_byte sent dropped gone_at transmit_full
  send_byte-parts now b u v k four p =
      choose-ind (λ (a : Access Write H W). Parts a.state) _ (λ _. p)
      (λ t. put_flight p
      (sent-within _ b v.in_flight v.tx (min-le_right _ _) (sends-behind _ _ v.in_flight p.flight.fit) (ltb-false _ _ t)
      (omega (arith, k.sent, leb-false)) p.flight))

  pub send-parts : (now : ℕ) (b : W) (u : Uart H W) → Parts u → Parts (outcome (some now) (Calls.send now b u) u).state
  unfolding outcome carried Calls.send after_settling dated
  send-parts now b u p =
      let s : Uart H W = (settle_at now u).state in
      dated-parts Err _ u p now _
      (λ h e. concluded-parts (send_byte now b s) (send_byte-parts now b (dated now u) s (settle-keeps now (dated now u))
      (not-refused _ _ none e).0 (settle_at-parts now u h p)))
