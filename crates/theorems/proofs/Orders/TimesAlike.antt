-- A blanked list of orders is alike to the list it was made from, so it times as that does; and it tells nothing of what was replaced.
-- Assumes nothing.
use Rattle.std.specs.Prelude.{◌≡◌, Bool, true, false, get_or}
use Rattle.std.proofs.Math.Path.{refl, sym, ap, ap₂, subst}
use Rattle.std.proofs.Common.{◌∙◌, arith}
use Prim.Native.Nat.{ℕ, ◌+◌, ◌<◌}
use Rattle.std.proofs.Math.Option.{Option, none, some, none-ne-some, some-injective}
use mathlib.Core.List.{List, [], ◌∷◌, map, map-map}
use Rattle.std.proofs.Math.ListN.{length}
use Rattle.std.proofs.lemmas.List.{length-map}
use Rattle.model.specs.State.{Sent, OnTheLine, Uart, line_bytes}
use Rattle.model.specs.Limits.{All, nil, cons, flight_dates, Within}
use Rattle.model.specs.Widths.{Word32, Bytes, Widths, Given, AskedGiven}
use Rattle.form.specs.Cells.{bytes_of}
use Rattle.form.specs.Form.{form}
use Rattle.form.specs.Load.{Loading, loaded, refused, load}
use Rattle.form.specs.Orders.{Order, LoadOf, CallersOrder, Parked, order_step, run_orders}
use Rattle.form.proofs.Laws.Bytes.{form-is-bytes}
use Rattle.form.specs.Examples.{no-parts, no_bytes, no-parts-bytes}
use Rattle.model.specs.Numbers.{choose}
use Rattle.model.specs.Map.{register_of}
use Rattle.model.specs.Tests.{repeated}
use Rattle.model.specs.Unused.{takes_word}
use Rattle.model.proofs.Unused.{new-unused}
use Rattle.model.specs.Call.{Dated, Undated, Call, Request, Asked, Ask, given}
use Rattle.theorems.specs.Orders.Renamed.{Saves, map_saves}
use Rattle.theorems.specs.Orders.Agree.{OrdersAgree}
use Rattle.theorems.proofs.Orders.OneRun.{Here, numbered_next, here-next, parked-next}
use Rattle.theorems.proofs.Orders.OneNumbering.{OneStep, order-one}
use Rattle.theorems.proofs.Orders.Theorem.{new_parked, new_saves, new_saves-nat, here, orders-agree-alike}
use Rattle.theorems.proofs.TimesAlike.{blanked-resets, length-blank, asked-alike, asked-same, same-blank}
use Rattle.form.proofs.Parked.{FormOf, saved-loads, loaded-is-form}
use Rattle.form.specs.declared.NotLoaded.TheVariants.{Layout, NoState}
use Rattle.theorems.specs.Blanked.{blank_byte, blank_word, blank_written, blank_resets, blanked, blanked_asked}
use Rattle.theorems.specs.TwoRuns.Renamed.{map_sent, map_on_the_line, map_receiving, map_uart, forget}
use Rattle.theorems.specs.Orders.Alike.{SameButBytes, LoadsAlike, both_refused, both_loaded, OrderAlike, OrdersAlike, order_host}
use Rattle.theorems.specs.Orders.Alike.{order_written, host_of_orders, written_of_orders, host_number, written_number}
use Rattle.theorems.proofs.Orders.Stands.{OrderFits, parked_as}
use Rattle.theorems.specs.Orders.Blanked.{blanked_state, blanked_loading, blanked_order, blanked_orders}

-- ---- a state with other bytes

module _ {H H' W W' : Type 0} (f : H → H') (g : W → W') where
  dates-same : (ss : List (Sent W)) → flight_dates (map (map_sent g) ss) ≡ flight_dates ss
  dates-same ss = map-map (λ (s : Sent W'). s.gone_at) (map_sent g) ss

  line-heard : (r : Option (OnTheLine H)) (l : OnTheLine H') → map_receiving f r ≡ some l → l.frame.heard ≡ true
      → (k : OnTheLine H) × (r ≡ some k) × (k.frame.heard ≡ true)
  unfolding map_receiving
  line-heard none l e h = absurd (none-ne-some l e)
  line-heard (some k) l e h = (k, refl, ap (λ x. x.frame.heard) (some-injective (map_on_the_line f k) l e) ∙ h)

  -- the limits say nothing of the values of bytes
  pub within-any : (u : Uart H W) → Within u → Within (map_uart f g u)
  within-any u w = record {
    sixteen = w.sixteen;
    offsets = w.offsets;
    period_low = w.period_low;
    period_high = w.period_high;
    last = w.last;
    wake = w.wake;
    flying = rw (length-map u.in_flight (map_sent g)) w.flying;
    flying_dates = rw (dates-same u.in_flight) w.flying_dates;
    sent = rw (length-map u.tx g, length-map u.in_flight (map_sent g)) w.sent;
    received = rw (length-map u.rx f) w.received;
    runs = w.runs;
    run_count = w.run_count;
    run_order = w.run_order;
    run_sum = w.run_sum ∙ sym (length-map u.host f);
    host = rw (length-map u.host f) w.host;
    status = w.status;
    idle_line = λ l e h. let (k, r, t) = line-heard u.receiving l e h in w.idle_line k r t;
    flying_fits = rw (dates-same u.in_flight) w.flying_fits;
    runs_fit = w.runs_fit;
    line_fits = w.line_fits;
    idle_fits = w.idle_fits;
  }

  -- two changes of bytes are one
  module _ {H'' W'' : Type 0} (h : H' → H'') (k : W' → W'') where
    receiving-twice : (r : Option (OnTheLine H)) → map_receiving h (map_receiving f r) ≡ map_receiving (λ b. h (f b)) r
    unfolding map_receiving
    receiving-twice none = refl
    receiving-twice (some l) = refl

    uart-twice : (u : Uart H W) → map_uart h k (map_uart f g u) ≡ map_uart (λ b. h (f b)) (λ b. k (g b)) u
    uart-twice u =
        rw (
          map-map (map_sent k) (map_sent g) u.in_flight,
          map-map k g u.tx,
          map-map h f u.host,
          receiving-twice u.receiving,
          map-map h f u.rx,
        ) refl

-- ---- a blanked state

blank-bytes : (bs : List ℕ) → Bytes (map blank_byte bs)
unfolding blank_byte
blank-bytes [] = nil
blank-bytes (b ∷ bs) =
    let small : blank_byte b < 256 = omega arith in
    cons small (blank-bytes bs)

blank-line : (r : Option (OnTheLine ℕ)) → Bytes (line_bytes (map_receiving blank_byte r))
unfolding map_receiving blank_byte
blank-line none = nil
blank-line (some l) =
    let small : blank_byte l.byte < 256 = omega arith in
    cons small nil

blank-flight : (ss : List (Sent ℕ)) → Bytes (map (λ s. s.byte) (map (map_sent blank_byte) ss))
unfolding blank_byte
blank-flight [] = nil
blank-flight (s ∷ ss) =
    let small : blank_byte s.byte < 256 = omega arith in
    cons small (blank-flight ss)

blank-widths : (u : Uart ℕ ℕ) → Widths u → Widths (blanked_state u)
blank-widths u w = record {
  offsets = w.offsets;
  reset = w.reset;
  idle_status = w.idle_status;
  mem_rx_status = w.mem_rx_status;
  words = w.words;
  int_raw = w.int_raw;
  powered_down_at = w.powered_down_at;
  in_flight = blank-flight u.in_flight;
  tx = blank-bytes u.tx;
  host = blank-bytes u.host;
  receiving = blank-line u.receiving;
  rx = blank-bytes u.rx;
}

blank-form : (u : Uart ℕ ℕ) (bs : List ℕ) → FormOf u bs → FormOf (blanked_state u) (bytes_of (form (blanked_state u)))
blank-form u bs f = record { within = within-any blank_byte blank_byte u f.within; widths = blank-widths u f.widths; bytes = refl }

-- ---- a blanked load

-- a load and the blanked one are alike
loading-alike : (bs : List ℕ) → Bytes bs → (x : Loading ℕ ℕ) → load bs ≡ x → LoadsAlike x (load (blanked_loading x))
unfolding blanked_loading forget
loading-alike bs a (loaded u) e =
    let f : FormOf u bs = loaded-is-form bs a u e in
    subst (LoadsAlike (loaded u)) (sym (saved-loads (blanked_state u) (bytes_of (form (blanked_state u))) (blank-form u bs f)))
    (both_loaded (sym (uart-twice blank_byte blank_byte forget forget u)))
loading-alike bs a (refused Layout) e = subst (LoadsAlike (refused Layout)) (sym no_bytes) both_refused
loading-alike bs a (refused NoState) e = subst (LoadsAlike (refused NoState)) (sym no-parts) both_refused

order_alike : (offsets : List ℕ) (o : CallersOrder) → OrderFits o → OrderAlike offsets o (blanked_order offsets o)
unfolding blanked_order
order_alike offsets (Order.ask a) f = OrderAlike.ask (asked-alike offsets a)
order_alike offsets (Order.to_save lent) f = OrderAlike.to_save (length-blank lent)
order_alike offsets (Order.to_load (LoadOf.bytes bs)) f = OrderAlike.load_bytes (loading-alike bs f (load bs) refl)
order_alike offsets (Order.to_load (LoadOf.save k)) f = OrderAlike.load_save

pub blanked-orders-alike : (p : Parked) (os : List CallersOrder) → All OrderFits os → OrdersAlike p os (blanked_orders p os)
unfolding blanked_orders
blanked-orders-alike p [] f = OrdersAlike.nil
blanked-orders-alike p (o ∷ os) (cons h f) =
    OrdersAlike.cons (order_alike p.uart.map.offsets o h) (blanked-orders-alike (order_step o p).next os f)

-- ---- what is sent out tells nothing of the bytes

nothing : Unit {0} → ℕ
nothing t = 0

blanked-same : (u v : Uart ℕ ℕ) → SameButBytes u v → blanked_state u ≡ blanked_state v
unfolding blank_byte nothing forget
blanked-same u v e =
    sym (uart-twice forget forget nothing nothing u) ∙ ap (map_uart nothing nothing) e ∙ uart-twice forget forget nothing nothing v

loads-same : {x y : Loading ℕ ℕ} → LoadsAlike x y → blanked_loading x ≡ blanked_loading y
unfolding blanked_loading
loads-same both_refused = refl
loads-same (both_loaded {u = u} {v = v} e) = ap (λ s. bytes_of (form s)) (blanked-same u v e)

order_same : (offsets : List ℕ) {o o' : CallersOrder} → OrderAlike offsets o o' → blanked_order offsets o ≡ blanked_order offsets o'
unfolding blanked_order
order_same offsets (OrderAlike.ask e) = ap Order.ask (asked-same offsets e)
order_same offsets (OrderAlike.to_save {lent = l} {lent' = l'} e) = ap Order.to_save (same-blank l l' e)
order_same offsets (OrderAlike.load_bytes e) = ap (λ bs. Order.to_load (LoadOf.bytes bs)) (loads-same e)
order_same offsets OrderAlike.load_save = refl

-- two alike lists, each asked of a UART whose bytes have the same numbers, blank to the same list
module _ (hs ws hs' ws' : List ℕ) where
  abbrev parked : Saves ℕ ℕ → Parked
  parked q = parked_as (map_saves (λ n. get_or hs n 0) (λ n. get_or ws n 0) q)

  abbrev parked' : Saves ℕ ℕ → Parked
  parked' q = parked_as (map_saves (λ n. get_or hs' n 0) (λ n. get_or ws' n 0) q)

  orders-same : (h w : ℕ) (os os' : List CallersOrder) (q : Saves ℕ ℕ) → Here hs ws h w os q → Here hs' ws' h w os' q
      → OrdersAlike (parked q) os os' → blanked_orders (parked q) os ≡ blanked_orders (parked' q) os'
  unfolding blanked_orders
  orders-same h w [] [] q e e' OrdersAlike.nil = refl
  orders-same h w [] (o' ∷ os') q e e' a = elim a [ ]
  orders-same h w (o ∷ os) [] q e e' a = elim a [ ]
  orders-same h w (o ∷ os) (o' ∷ os') q e e' (OrdersAlike.cons a rest) =
      let offsets : List ℕ = q.uart.map.offsets in
      let one : OneStep q h w o o' = order-one q h w e.sound.uart.0.sixteen a in
      let next : Saves ℕ ℕ = numbered_next hs ws h w o q in
      let same : numbered_next hs' ws' h w o' q ≡ next = sym (ap (λ s. s.next) one.step) in
      let first = parked-next hs ws h w o os q e.sound e.host e.written in
      let second : (order_step o' (parked' q)).next ≡ parked' next =
      parked-next hs' ws' h w o' os' q e'.sound e'.host e'.written ∙ ap parked' same in
      let i : ℕ = h + length (order_host o) in
      let j : ℕ = w + length (order_written offsets o) in
      let there : Here hs' ws' i j os' next =
      subst (λ n. Here hs' ws' n j os' next) (ap (λ (k : ℕ). h + k) (sym one.host))
      (subst (λ n. Here hs' ws' (h + length (order_host o')) n os' next) (ap (λ (k : ℕ). w + k) (sym one.written))
      (subst (λ p. Here hs' ws' (h + length (order_host o')) (w + length (order_written offsets o')) os' p) same
      (here-next hs' ws' h w o' os' q e'))) in
      ap₂ ◌∷◌ (order_same offsets a)
      (ap (λ p. blanked_orders p os) first
      ∙ orders-same i j os os' next (here-next hs ws h w o os q e) there (subst (λ p. OrdersAlike p os os') first rest)
      ∙ ap (λ p. blanked_orders p os') (sym second))

-- ---- what is sent out fits its types

word_fits : (offsets : List ℕ) (offset v : ℕ) → Word32 v → Word32 (blank_word offsets offset v)
unfolding blank_word choose
word_fits offsets offset v h = by-test (takes_word (register_of offsets offset))
  where
    by-test : (t : Bool) → Word32 (choose t v 0)
    by-test true = h
    by-test false = omega arith

call_fits : (offsets : List ℕ) (c : Request) → Given c → Given (blanked offsets c)
unfolding blanked blank_written given
call_fits offsets (Call.at now (Dated.read r)) g = g
call_fits offsets (Call.at now (Dated.write x)) (cons h nil, b) = (cons (word_fits offsets x.offset x.value h) nil, b)
call_fits offsets (Call.at now (Dated.receive date bs)) g = (g.0, blank-bytes bs)
call_fits offsets (Call.at now (Dated.take_tx lent)) g = g
call_fits offsets (Call.at now (Dated.machine m)) g = g
call_fits offsets (Call.undated (Undated.take_written lent)) g = g
call_fits offsets (Call.undated Undated.has_left) g = g
call_fits offsets (Call.undated Undated.host_pending) g = g

ask-fits : (offsets : List ℕ) (a : Ask) → AskedGiven a → AskedGiven (blanked_asked offsets a)
unfolding blanked_asked
ask-fits offsets (Asked.call c) g = call_fits offsets c g
ask-fits offsets (Asked.row now bs) g = blank-bytes bs

load_fits : (bs : List ℕ) → Bytes bs → (x : Loading ℕ ℕ) → load bs ≡ x → Bytes (blanked_loading x)
unfolding blanked_loading
load_fits bs a (loaded u) e = form-is-bytes (blanked_state u) (blank-widths u (loaded-is-form bs a u e).widths)
load_fits bs a (refused Layout) e = nil
load_fits bs a (refused NoState) e = no-parts-bytes

order-fits : (offsets : List ℕ) (o : CallersOrder) → OrderFits o → OrderFits (blanked_order offsets o)
unfolding blanked_order
order-fits offsets (Order.ask a) f = ask-fits offsets a f
order-fits offsets (Order.to_save lent) f = tt
order-fits offsets (Order.to_load (LoadOf.bytes bs)) f = load_fits bs f (load bs) refl
order-fits offsets (Order.to_load (LoadOf.save k)) f = tt

orders-fit : (p : Parked) (os : List CallersOrder) → All OrderFits os → All OrderFits (blanked_orders p os)
unfolding blanked_orders
orders-fit p [] f = nil
orders-fit p (o ∷ os) (cons h f) = cons (order-fits p.uart.map.offsets o h) (orders-fit (order_step o p).next os f)

-- ---- the theorems

module _ (offsets ws : List ℕ) (sixteen : length offsets ≡ 16) (differ : repeated offsets ≡ false) (wide : All Word32 offsets)
    (words : All Word32 ws) where
  abbrev begun : Parked
  begun = new_parked offsets ws

  -- a blanked run times as the real one: all answers agree, apart from the byte that a read of FIFO gives, bytes handed out as sent and
  -- those of a saved form, and these agree in count
  pub blanked-orders-agree : (cs : List CallersOrder) → All OrderFits cs
      → let ds = blanked_orders begun cs in
      OrdersAgree (host_number cs) (host_number ds) (written_number begun cs) (written_number begun ds) begun 0 0 cs (run_orders cs begun)
      (run_orders ds (new_parked offsets (blank_resets ws)))
  blanked-orders-agree cs fits =
      let ds : List CallersOrder = blanked_orders begun cs in
      subst (λ u. OrdersAgree (host_number cs) (host_number ds) (written_number begun cs) (written_number begun ds) begun 0 0 cs
      (run_orders cs begun) (run_orders ds (record { uart = u; kept = [] })))
      (new-unused offsets ws (blank_resets ws) (blanked-resets ws))
      (orders-agree-alike offsets ws sixteen differ wide words cs ds fits (orders-fit begun cs fits) (blanked-orders-alike begun cs fits))

  -- and two alike lists are sent out as one
  pub alike-orders-blanked : (cs ds : List CallersOrder) → All OrderFits cs → All OrderFits ds → OrdersAlike begun cs ds
      → blanked_orders begun cs ≡ blanked_orders begun ds
  alike-orders-blanked cs ds fits fits' a =
      let hs : List ℕ = host_of_orders cs in
      let wr : List ℕ = written_of_orders begun cs in
      let hs' : List ℕ = host_of_orders ds in
      let wr' : List ℕ = written_of_orders begun ds in
      let first = new_saves-nat offsets ws sixteen differ wide words (host_number cs) (written_number begun cs) in
      let second = new_saves-nat offsets ws sixteen differ wide words (host_number ds) (written_number begun ds) in
      ap (λ q. blanked_orders (parked_as q) cs) (sym first)
      ∙ orders-same hs wr hs' wr' 0 0 cs ds (new_saves offsets ws sixteen differ wide words)
      (here offsets ws sixteen differ wide words cs fits) (here offsets ws sixteen differ wide words ds fits')
      (subst (λ q. OrdersAlike (parked_as q) cs ds) (sym first) a)
      ∙ ap (λ q. blanked_orders (parked_as q) ds) second
