-- Alike lists have one run with numbers. Assumes nothing.
use Rattle.std.specs.Prelude.{◌≡◌, false}
use Rattle.std.proofs.Math.Path.{refl, sym, ap, ap₂, subst}
use Rattle.std.proofs.Common.{◌∙◌, suc-ne-zero, true≢false, length-append}
use Prim.Native.Nat.{ℕ, ◌+◌, ◌%◌}
use Rattle.std.proofs.Math.Bool.{decide}
use Rattle.std.proofs.Math.Option.{Option, none, some}
use mathlib.Core.List.{List, [], ◌∷◌, ◌++◌, map, flat_map}
use Rattle.std.proofs.Math.ListN.{length, get_or, length-map}
use Rattle.model.proofs.Laws.Choose.{choose-false}
use Rattle.model.specs.State.{Sent, OnTheLine, Uart, line_bytes}
use Rattle.model.specs.Map.{Register, is_fifo, register_of}
use Rattle.model.specs.Registers.{write_register}
use Rattle.model.specs.Calls.{outcome, written, write_placed}
use Rattle.model.specs.Call.{Dated, Call, date_of, Asked, Ask, given, writes}
use Rattle.model.specs.Run.{Step, stepped, replying, plan_by, asked_by}
use Rattle.model.specs.Unused.{takes_word}
use Rattle.model.proofs.Laws.Placed.{Put, changed, changed_dated, changed_asked, put_at, placed, placed_asked, putting, step_by}
use Rattle.model.proofs.Laws.Placed.{step_placed}
use Rattle.form.specs.Load.{Loading, loaded}
use Rattle.form.specs.Orders.{Order, Answered, order_by, CallersOrder}
use Rattle.theorems.specs.TwoRuns.Alike.{Alike, AskedAlike, fifo_offset, given_by, host_given, fifo_given}
use Rattle.theorems.specs.TwoRuns.Renamed.{map_sent, map_receiving, map_uart, forget}
use Rattle.theorems.specs.TwoRuns.NaturalCalls.{map_put}
use Rattle.theorems.proofs.TwoRuns.Numbering.{numbered, numbered_asked, forget-alike, asked-alike, given-alike}
use Rattle.theorems.proofs.TwoRuns.Numbering.{host-of-placed, written-of-placed}
use Rattle.theorems.specs.TwoRuns.InUse.{AlikeInUse}
use Rattle.theorems.proofs.TwoRuns.InUse.{not_first}
use Rattle.theorems.specs.Orders.Renamed.{LoadFrom, Saves, placed_step, map_saves}
use Rattle.theorems.specs.Orders.Alike.{LoadsAlike, both_refused, both_loaded, OrderAlike, OrdersAlike, host_bytes}
use Rattle.theorems.specs.Orders.Alike.{loaded_host, loaded_written, order_host, order_written}
use Rattle.theorems.proofs.Orders.Numbering.{numbered_flight, numbered_uart, numbered_loading, numbered_order}
use Rattle.theorems.proofs.Orders.OneRun.{numbered_run, Here, numbered_next, here-next, parked-next}
use Rattle.theorems.proofs.Orders.Stands.{parked_as}

-- ---- a state has the same numbers whatever its bytes are

module _ {H H' W W' : Type 0} (f : H → H') (g : W → W') where
  flight-any : (n : ℕ) (ss : List (Sent W)) → numbered_flight n (map (map_sent g) ss) ≡ numbered_flight n ss
  unfolding numbered_flight
  flight-any n [] = refl
  flight-any n (s ∷ ss) = ap (λ l. record { gone_at = s.gone_at; byte = n } ∷ l) (flight-any (n + 1) ss)

  receiving-any : (n : ℕ) (r : Option (OnTheLine H)) → map_receiving (λ b. n) (map_receiving f r) ≡ map_receiving (λ b. n) r
  unfolding map_receiving
  receiving-any n none = refl
  receiving-any n (some l) = refl

  line-any : (r : Option (OnTheLine H)) → length (line_bytes (map_receiving f r)) ≡ length (line_bytes r)
  unfolding map_receiving
  line-any none = refl
  line-any (some l) = refl

  numbered-any : (h w : ℕ) (u : Uart H W) → numbered_uart h w (map_uart f g u) ≡ numbered_uart h w u
  unfolding numbered_uart
  numbered-any h w u =
      rw (
        length-map u.tx g,
        length-map u.host f,
        length-map u.rx f,
        line-any u.receiving,
        receiving-any h u.receiving,
        flight-any (w + length u.tx) u.in_flight,
      ) refl

  -- how many bytes it has
  host-any : (u : Uart H W)
      → length (line_bytes (map_receiving f u.receiving)) + (length (map f u.host) + length (map f u.rx))
      ≡ length (line_bytes u.receiving) + (length u.host + length u.rx)
  host-any u = rw (length-map u.host f, length-map u.rx f, line-any u.receiving) refl

  written-any : (u : Uart H W) → length (map g u.tx) + length (map (map_sent g) u.in_flight) ≡ length u.tx + length u.in_flight
  written-any u = rw (length-map u.tx g, length-map u.in_flight (map_sent g)) refl

abbrev host_count : {H W : Type 0} → Uart H W → ℕ
host_count u = length (line_bytes u.receiving) + (length u.host + length u.rx)

abbrev written_count : {H W : Type 0} → Uart H W → ℕ
written_count u = length u.tx + length u.in_flight

host-count : (u : Uart ℕ ℕ) → length (host_bytes u) ≡ host_count u
host-count u =
    length-append (line_bytes u.receiving) (u.host ++ u.rx)
    ∙ ap (λ (n : ℕ). length (line_bytes u.receiving) + n) (length-append u.host u.rx)

written_count-is : (u : Uart ℕ ℕ) → length (written u) ≡ written_count u
unfolding written
written_count-is u =
    length-append u.tx (map (λ s. s.byte) u.in_flight)
    ∙ ap (λ (n : ℕ). length u.tx + n) (length-map u.in_flight (λ s. s.byte))

-- ---- alike orders

-- one numbered step, and as many bytes given
pub record OneStep (q : Saves ℕ ℕ) (h w : ℕ) (o o' : CallersOrder) : Type 0 where
  pub step : placed_step (numbered_order q.uart.map.offsets h w o) q ≡ placed_step (numbered_order q.uart.map.offsets h w o') q
  pub host : length (order_host o) ≡ length (order_host o')
  pub written : length (order_written q.uart.map.offsets o) ≡ length (order_written q.uart.map.offsets o')

record OneLoading (h w : ℕ) (x y : Loading ℕ ℕ) : Type 0 where
  loading : numbered_loading h w x ≡ numbered_loading h w y
  host : length (loaded_host x) ≡ length (loaded_host y)
  written : length (loaded_written x) ≡ length (loaded_written y)

loads-one : (h w : ℕ) {x y : Loading ℕ ℕ} → LoadsAlike x y → OneLoading h w x y
unfolding numbered_loading loaded_host loaded_written
loads-one h w both_refused = record { loading = refl; host = refl; written = refl }
loads-one h w (both_loaded {u = u} {v = v} e) = record {
  loading = ap loaded (sym (numbered-any forget forget h w u) ∙ ap (numbered_uart h w) e ∙ numbered-any forget forget h w v);
  host =
      host-count u ∙ sym (host-any forget forget u) ∙ ap (λ s. host_count s) e ∙ host-any forget forget v ∙ sym (host-count v);
  written =
      written_count-is u ∙ sym (written-any forget forget u) ∙ ap (λ s. written_count s) e ∙ written-any forget forget v
      ∙ sym (written_count-is v);
}

-- a word that is not used
put-unused : (r : Register) → is_fifo r ≡ false → takes_word r ≡ false → (now v v' : ℕ) (u : Uart ℕ ℕ)
    → putting now (Put.word r v) u ≡ putting now (Put.word r v') u
unfolding putting write_placed write_register decide
put-unused Register.fifo f e now v v' u = absurd (true≢false f)
put-unused Register.int_clr f e now v v' u = absurd (true≢false e)
put-unused Register.unknown f e now v v' u = refl
put-unused (Register.shown s) f e now v v' u = refl
put-unused (Register.stored x) f e now v v' u = absurd (true≢false e)

abbrev write_of : ℕ → ℕ → ℕ → Ask
write_of now offset v = Asked.call (Call.at now (Dated.write (record { offset = offset; value = v })))

module _ (offsets : List ℕ) (h w now offset v v' : ℕ) (u : Uart ℕ ℕ) where
  abbrev register : Register
  register = register_of offsets offset

  unused-step : is_fifo register ≡ false → takes_word register ≡ false
      → asked_by step_placed (numbered_asked h w (placed_asked offsets (write_of now offset v))) u
      ≡ asked_by step_placed (numbered_asked h w (placed_asked offsets (write_of now offset v'))) u
  unfolding asked_by changed_asked numbered placed changed changed_dated map_put put_at step_placed step_by plan_by date_of
  unused-step f e =
      ap as-write (choose-false (Put.byte (v % 256)) (Put.word register v) f)
      ∙ ap (λ p. stepped (outcome (some now) (replying {L = Unit {0}} writes p) u)) (put-unused register f e now v v' u)
      ∙ sym (ap as-write (choose-false (Put.byte (v' % 256)) (Put.word register v') f))
    where
      as-write : Put ℕ → Step ℕ ℕ (Unit {0})
      as-write x = step_placed (Call.at now (Dated.write (map_put (λ b. w) x))) u

-- such a write gives FIFO no byte
unused-given : (offsets : List ℕ) → length offsets ≡ 16 → (now offset v : ℕ) → is_fifo (register_of offsets offset) ≡ false
    → fifo_given (fifo_offset offsets) (write_of now offset v) ≡ []
unfolding given_by given flat_map
unused-given [] n now offset v f = absurd (suc-ne-zero _ (sym n))
unused-given (fifo ∷ others) n now offset v f =
    ap (λ (l : List ℕ). l ++ []) (choose-false (v % 256 ∷ []) [] (not_first fifo others offset f))

-- two asks that are alike
record OneAsk (offsets : List ℕ) (h w : ℕ) (u : Uart ℕ ℕ) (a b : Ask) : Type 0 where
  step : asked_by step_placed (numbered_asked h w (placed_asked offsets a)) u
      ≡ asked_by step_placed (numbered_asked h w (placed_asked offsets b)) u
  host : length (host_given a) ≡ length (host_given b)
  written : length (fifo_given (fifo_offset offsets) a) ≡ length (fifo_given (fifo_offset offsets) b)

ask-placed : (fifo : ℕ) (others : List ℕ) (h w : ℕ) (u : Uart ℕ ℕ) {a b : Ask} → AskedAlike (Alike fifo) a b
    → OneAsk (fifo ∷ others) h w u a b
ask-placed fifo others h w u {a} {b} e =
    let (p, q) = given-alike fifo others e in
    record {
      step = ap (λ x. asked_by step_placed x u) (asked-alike fifo others h w e);
      host = ap length (sym (host-of-placed (fifo ∷ others) a)) ∙ p ∙ ap length (host-of-placed (fifo ∷ others) b);
      written = ap length (sym (written-of-placed fifo others a)) ∙ q ∙ ap length (written-of-placed fifo others b);
    }

ask-one : (offsets : List ℕ) → length offsets ≡ 16 → (h w : ℕ) (u : Uart ℕ ℕ) {a b : Ask} → AskedAlike (AlikeInUse offsets) a b
    → OneAsk offsets h w u a b
unfolding given_by given
ask-one [] n h w u e = absurd (suc-ne-zero _ (sym n))
ask-one (fifo ∷ others) n h w u (AskedAlike.call (AlikeInUse.alike e)) = ask-placed fifo others h w u (AskedAlike.call e)
ask-one (fifo ∷ others) n h w u (AskedAlike.call (AlikeInUse.unused_word {now = now} {offset = o} {v = v} {v' = v'} f e)) = record {
  step = unused-step (fifo ∷ others) h w now o v v' u f e;
  host = refl;
  written = ap length (unused-given (fifo ∷ others) n now o v f ∙ sym (unused-given (fifo ∷ others) n now o v' f));
}
ask-one (fifo ∷ others) n h w u (AskedAlike.row e) = ask-placed fifo others h w u (AskedAlike.row e)

pub order-one : (q : Saves ℕ ℕ) (h w : ℕ) {o o' : CallersOrder} → length q.uart.map.offsets ≡ 16
    → OrderAlike q.uart.map.offsets o o' → OneStep q h w o o'
unfolding order_by numbered_order order_host order_written
order-one q h w n (OrderAlike.ask e) =
    let one = ask-one q.uart.map.offsets n h w q.uart e in
    record {
      step = ap (λ s. record { answer = Answered.answers s.answer; next = record { uart = s.state; kept = q.kept } }) one.step;
      host = one.host;
      written = one.written;
    }
order-one q h w n (OrderAlike.to_save {lent = l} {lent' = l'} e) = record {
  step = ap (λ x. placed_step (Order.to_save x) q) (forget-alike l l' e);
  host = refl;
  written = refl;
}
order-one q h w n (OrderAlike.load_bytes e) =
    let one = loads-one h w e in
    record {
      step = ap (λ x. placed_step {L = Unit {0}} (Order.to_load (LoadFrom.given x)) q) one.loading;
      host = one.host;
      written = one.written;
    }
order-one q h w n OrderAlike.load_save = record { step = refl; host = refl; written = refl }

-- ---- alike lists, the first asked of a UART whose bytes have these numbers

module _ (hs ws : List ℕ) where
  pub runs-one : (h w : ℕ) (os os' : List CallersOrder) (q : Saves ℕ ℕ) → Here hs ws h w os q
      → OrdersAlike (parked_as (map_saves (λ n. get_or hs n 0) (λ n. get_or ws n 0) q)) os os'
      → numbered_run h w os q ≡ numbered_run h w os' q
  unfolding numbered_run
  runs-one h w [] [] q e OrdersAlike.nil = refl
  runs-one h w [] (o' ∷ os') q e a = elim a [ ]
  runs-one h w (o ∷ os) [] q e a = elim a [ ]
  runs-one h w (o ∷ os) (o' ∷ os') q e (OrdersAlike.cons a rest) =
      let f : ℕ → ℕ = λ n. get_or hs n 0 in
      let g : ℕ → ℕ = λ n. get_or ws n 0 in
      let offsets : List ℕ = q.uart.map.offsets in
      let one : OneStep q h w o o' = order-one q h w e.sound.uart.0.sixteen a in
      let next = numbered_next hs ws h w o q in
      let further : OrdersAlike (parked_as (map_saves f g next)) os os' =
      subst (λ p. OrdersAlike p os os') (parked-next hs ws h w o os q e.sound e.host e.written) rest in
      ap₂ (λ s l. s.answer ∷ l) one.step
      (runs-one (h + length (order_host o)) (w + length (order_written offsets o)) os os' next (here-next hs ws h w o os q e) further
      ∙ ap₂ (λ (i j : ℕ). numbered_run (h + i) (w + j) os' next) one.host one.written
      ∙ ap (λ s. numbered_run (h + length (order_host o')) (w + length (order_written offsets o')) os' s.next) one.step)
