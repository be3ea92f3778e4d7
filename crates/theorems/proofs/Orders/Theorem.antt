-- Demand 3 of lists of calls, rows, saves and loads: two alike lists give one list of answers with numbers for bytes. Assumes nothing.
use Rattle.std.specs.Prelude.{◌≡◌, refl, false, get_or}
use Rattle.std.proofs.Math.Path.{sym, subst₂}
use Rattle.std.proofs.Common.{ap, ap₂, subst, ◌∙◌, suc-ne-zero}
use Prim.Native.Nat.{ℕ, ◌+◌}
use Rattle.std.proofs.Math.Option.{Option}
use mathlib.Core.List.{List, [], ◌∷◌, map}
use Rattle.std.proofs.Math.ListN.{length}
use Rattle.std.proofs.lemmas.List.{length-map}
use Rattle.model.specs.SetUp.{new}
use Rattle.model.specs.Tests.{repeated}
use Rattle.model.specs.Limits.{All}
use Rattle.model.specs.Widths.{Word32}
use Rattle.model.specs.Replies.{Take}
use Rattle.model.specs.Call.{Asked, Ask, Answer}
use Rattle.model.proofs.Keeps.Runs.{new-within}
use Rattle.model.proofs.Ends.Passes.{apart}
use Rattle.form.specs.Cells.{Cell}
use Rattle.form.specs.Load.{Loading, loaded, refused}
use Rattle.form.specs.Orders.{Order, Answered, loading, order_by, LoadOf, CallersOrder, Parked, order_step, run_orders}
use Rattle.theorems.specs.Keeps.Widths.{new-widths}
use Rattle.theorems.specs.TwoRuns.Alike.{fifo_offset}
use Rattle.theorems.specs.TwoRuns.Renamed.{itself, map_take, map_reply, map_answer}
use Rattle.theorems.specs.TwoRuns.Numbered.{Bare, without_rest, AskedShape}
use Rattle.theorems.proofs.TwoRuns.Shapes.{asked-shape}
use Rattle.theorems.proofs.TwoRuns.Theorem.{agree-by, row-known, firsts, new-nat}
use Rattle.theorems.specs.Orders.Renamed.{Saves, placed_step, map_saves, map_answered}
use Rattle.theorems.specs.Orders.Alike.{OrdersAlike, order_host, order_written, host_of_orders, written_of_orders, host_number}
use Rattle.theorems.specs.Orders.Alike.{written_number}
use Rattle.theorems.specs.Orders.Agree.{OrderAgree, OrdersAgree}
use Rattle.theorems.proofs.Orders.Numbering.{numbered_order}
use Rattle.theorems.proofs.Orders.Stands.{OrderFits, SoundSaves, parked_as}
use Rattle.theorems.proofs.Orders.OneRun.{bare_answered, numbered_run, Here, numbered_next, here-next, parked-next, run-numbered}
use Rattle.theorems.proofs.Orders.OneNumbering.{runs-one}
use Rattle.form.specs.declared.NotLoaded.{NotLoaded}
use Rattle.theorems.proofs.Orders.Bounds.{BelowAnswered, FixedSaves, next-fixed, answer-below}

-- ---- the kind of each answer

pub data OrderShape (offsets : List ℕ) : CallersOrder → Answered ℕ ℕ (Unit {0}) → Type 0 where
  ask : {a : Ask} {x : Bare} → AskedShape (fifo_offset offsets) a x → OrderShape offsets (Order.ask a) (Answered.answers x)
  saves : {lent : List ℕ} {t : Take (Cell ℕ ℕ) (Unit {0})} → OrderShape offsets (Order.to_save lent) (Answered.saves t)
  loads : {l : LoadOf} {r : Option NotLoaded} → OrderShape offsets (Order.to_load l) (Answered.loads r)

load-shape : (offsets : List ℕ) (l : LoadOf) (x : Loading ℕ ℕ) (q : Saves ℕ ℕ) → OrderShape offsets (Order.to_load l) (loading x q).answer
unfolding loading
load-shape offsets l (loaded u) q = OrderShape.loads
load-shape offsets l (refused r) q = OrderShape.loads

order-shape : (offsets : List ℕ) → length offsets ≡ 16 → (h w : ℕ) (o : CallersOrder) (q : Saves ℕ ℕ)
    → OrderShape offsets o (placed_step (numbered_order offsets h w o) q).answer
unfolding order_by numbered_order
order-shape [] e h w o q = absurd (suc-ne-zero _ (sym e))
order-shape (fifo ∷ others) e h w (Order.ask a) q = OrderShape.ask (asked-shape fifo others h w a q.uart)
order-shape (fifo ∷ others) e h w (Order.to_save lent) q = OrderShape.saves
order-shape (fifo ∷ others) e h w (Order.to_load (LoadOf.bytes bs)) q = load-shape (fifo ∷ others) (LoadOf.bytes bs) _ q
order-shape (fifo ∷ others) e h w (Order.to_load (LoadOf.save k)) q = load-shape (fifo ∷ others) (LoadOf.save k) _ q

-- ---- one list for both runs

-- the kind of each answer, and its numbers below the counts of bytes that the first list has given once the order is made
pub data EachOrder : Parked → ℕ → ℕ → List CallersOrder → List (Answered ℕ ℕ (Unit {0})) → Type 0 where
  nil : {p : Parked} {h w : ℕ} → EachOrder p h w [] []
  cons : {p : Parked} {h w : ℕ} {o : CallersOrder} {os : List CallersOrder} {a : Answered ℕ ℕ (Unit {0})}
      {as-rest : List (Answered ℕ ℕ (Unit {0}))} → OrderShape p.uart.map.offsets o a
      → BelowAnswered (h + length (order_host o)) (w + length (order_written p.uart.map.offsets o)) a
      → EachOrder (order_step o p).next (h + length (order_host o)) (w + length (order_written p.uart.map.offsets o)) os as-rest
      → EachOrder p h w (o ∷ os) (a ∷ as-rest)

module _ (hs ws : List ℕ) where
  each-order : (h w : ℕ) (os : List CallersOrder) (q : Saves ℕ ℕ) → Here hs ws h w os q → FixedSaves h w q
      → EachOrder (parked_as (map_saves (λ n. get_or hs n 0) (λ n. get_or ws n 0) q)) h w os (numbered_run h w os q)
  unfolding numbered_run
  each-order h w [] q e k = EachOrder.nil
  each-order h w (o ∷ os) q e k =
      let sixteen : length q.uart.map.offsets ≡ 16 = e.sound.uart.0.sixteen in
      let i : ℕ = h + length (order_host o) in
      let j : ℕ = w + length (order_written q.uart.map.offsets o) in
      EachOrder.cons (order-shape q.uart.map.offsets sixteen h w o q) (answer-below h w o q sixteen k)
      (subst (λ p. EachOrder p i j os (numbered_run i j os (numbered_next hs ws h w o q)))
      (sym (parked-next hs ws h w o os q e.sound e.host e.written))
      (each-order i j os (numbered_next hs ws h w o q) (here-next hs ws h w o os q e) (next-fixed h w o q sixteen k)))

-- ---- the answers agree

-- an answer of the kind that a bare one has
answers-known : (x : Answered ℕ ℕ ℕ) {b : Bare} → bare_answered x ≡ Answered.answers b
    → (a : Answer ℕ ℕ ℕ) × (x ≡ Answered.answers a) × (without_rest a ≡ b)
unfolding bare_answered
answers-known (Answered.answers a) e = (a, refl, (cc))
answers-known (Answered.saves t) e = apart (cc)
answers-known (Answered.loads r) e = apart (cc)

record Saved (x : Answered ℕ ℕ ℕ) (t : Take (Cell ℕ ℕ) (Unit {0})) : Type 0 where
  rest : List ℕ
  is : Answered.saves (record { taken = t.taken; front = t.front; rest = rest }) ≡ x
  long : length rest ≡ length t.rest

saves-known : (x : Answered ℕ ℕ ℕ) (t : Take (Cell ℕ ℕ) (Unit {0})) → bare_answered x ≡ Answered.saves t → Saved x t
unfolding bare_answered
saves-known (Answered.answers a) t e = apart (cc)
saves-known (Answered.saves u) t e =
    let same : record { taken = u.taken; front = u.front; rest = map (λ b. tt) u.rest } ≡ t = cc in
    record {
      rest = u.rest;
      is = ap₂ (λ k l. Answered.saves (record { taken = k; front = l; rest = u.rest })) (sym (ap (λ v. v.taken) same))
          (sym (ap (λ v. v.front) same));
      long = sym (length-map u.rest (λ b. tt)) ∙ ap (λ v. length v.rest) same;
    }
saves-known (Answered.loads r) t e = apart (cc)

loads-known : (x : Answered ℕ ℕ ℕ) {r : Option NotLoaded} → bare_answered x ≡ Answered.loads r → Answered.loads r ≡ x
unfolding bare_answered
loads-known (Answered.answers a) e = apart (cc)
loads-known (Answered.saves t) e = apart (cc)
loads-known (Answered.loads s) {r} e = let same : s ≡ r = cc in ap Answered.loads (sym same)

module _ (f f' g g' : ℕ → ℕ) where
  ask-agrees : (offsets : List ℕ) (h w : ℕ) {a : Ask} {b : Bare} → AskedShape (fifo_offset offsets) a b
      → BelowAnswered h w (Answered.answers b)
      → (x y : Answer ℕ ℕ ℕ) → without_rest x ≡ map_answer f g itself b → without_rest y ≡ map_answer f' g' itself b
      → OrderAgree f f' g g' offsets h w (Order.ask a) (Answered.answers x) (Answered.answers y)
  unfolding map_answer map_reply without_rest BelowAnswered
  ask-agrees offsets h w (AskedShape.call {c = c} {a = b} s) k x y e d =
      subst₂ (λ r q. OrderAgree f f' g g' offsets h w (Order.ask (Asked.call c))
      (Answered.answers (record { reply = x.reply; report = r }))
      (Answered.answers (record { reply = y.reply; report = q })))
      (sym (ap (λ z. z.report) e)) (sym (ap (λ z. z.report) d))
      (OrderAgree.call (agree-by (fifo_offset offsets) f f' g g' s k x.reply y.reply (ap (λ z. z.reply) e) (ap (λ z. z.reply) d)))
  ask-agrees offsets h w (AskedShape.row {now = now} {bs = bs} {x = made} {r = r}) k x y e d =
      subst₂ (λ z t. OrderAgree f f' g g' offsets h w (Order.ask (Asked.row now bs)) (Answered.answers z) (Answered.answers t))
      (row-known x made r e) (row-known y made r d) OrderAgree.row

  order-agrees : (offsets : List ℕ) (h w : ℕ) {o : CallersOrder} {a : Answered ℕ ℕ (Unit {0})} → OrderShape offsets o a
      → BelowAnswered h w a → (x y : Answered ℕ ℕ ℕ) → bare_answered x ≡ map_answered f g itself a
      → bare_answered y ≡ map_answered f' g' itself a → OrderAgree f f' g g' offsets h w o x y
  unfolding map_answered map_take BelowAnswered
  order-agrees offsets h w (OrderShape.ask {a = a} s) k x y e d =
      let (xa, xe, xb) = answers-known x e in
      let (ya, ye, yb) = answers-known y d in
      subst₂ (OrderAgree f f' g g' offsets h w (Order.ask a)) (sym xe) (sym ye) (ask-agrees offsets h w s k xa ya xb yb)
  order-agrees offsets h w (OrderShape.saves {lent = lent} {t = t}) k x y e d =
      let p = saves-known x _ e in
      let q = saves-known y _ d in
      subst₂ (OrderAgree f f' g g' offsets h w (Order.to_save lent)) p.is q.is (OrderAgree.saves k (p.long ∙ sym q.long))
  order-agrees offsets h w (OrderShape.loads {l = l}) k x y e d =
      subst₂ (OrderAgree f f' g g' offsets h w (Order.to_load l)) (loads-known x e) (loads-known y d) OrderAgree.loads

  orders-agree : {p : Parked} {h w : ℕ} {os : List CallersOrder} {l : List (Answered ℕ ℕ (Unit {0}))} → EachOrder p h w os l
      → (xs ys : List (Answered ℕ ℕ ℕ)) → map bare_answered xs ≡ map (map_answered f g itself) l
      → map bare_answered ys ≡ map (map_answered f' g' itself) l → OrdersAgree f f' g g' p h w os xs ys
  orders-agree EachOrder.nil [] [] e d = OrdersAgree.nil
  orders-agree EachOrder.nil [] (y ∷ ys) e d = apart (cc)
  orders-agree EachOrder.nil (x ∷ xs) ys e d = apart (cc)
  orders-agree (EachOrder.cons s b rest) [] ys e d = apart (cc)
  orders-agree (EachOrder.cons s b rest) (x ∷ xs) [] e d = apart (cc)
  orders-agree (EachOrder.cons s b rest) (x ∷ xs) (y ∷ ys) e d =
      let (e₀, e₁) = firsts e in
      let (d₀, d₁) = firsts d in
      OrdersAgree.cons (order-agrees _ _ _ s b x y e₀ d₀) (orders-agree rest xs ys e₁ d₁)

-- ---- the theorem

-- a new UART, of which nothing was saved
abbrev pub new_parked : List ℕ → List ℕ → Parked
new_parked offsets ws = record { uart = new offsets ws; kept = [] }

-- both runs are images of one list of answers with numbers for bytes, each under its own bytes
pub record OneListOfOrders (offsets ws : List ℕ) (cs ds : List CallersOrder) : Type 0 where
  pub answers : List (Answered ℕ ℕ (Unit {0}))
  pub first : map bare_answered (run_orders cs (new_parked offsets ws))
      ≡ map (map_answered (host_number cs) (written_number (new_parked offsets ws) cs) itself) answers
  pub second : map bare_answered (run_orders ds (new_parked offsets ws))
      ≡ map (map_answered (host_number ds) (written_number (new_parked offsets ws) ds) itself) answers
  pub each : EachOrder (new_parked offsets ws) 0 0 cs answers

module _ (offsets ws : List ℕ) (sixteen : length offsets ≡ 16) (differ : repeated offsets ≡ false) (wide : All Word32 offsets)
    (words : All Word32 ws) where
  abbrev pub new_saves : Saves ℕ ℕ
  new_saves = record { uart = new offsets ws; kept = [] }

  pub new_saves-nat : (f g : ℕ → ℕ) → map_saves f g new_saves ≡ new_saves
  new_saves-nat f g = ap (λ u. record { uart = u; kept = [] }) (new-nat f g offsets ws)

  new_saves-sound : SoundSaves new_saves
  new_saves-sound = record { uart = (new-within offsets ws sixteen differ, new-widths offsets ws wide words); kept = All.nil }

  pub here : (cs : List CallersOrder) → All OrderFits cs
      → Here (host_of_orders cs) (written_of_orders (new_parked offsets ws) cs) 0 0 cs new_saves
  here cs fits =
      let f : ℕ → ℕ = host_number cs in
      let g : ℕ → ℕ = written_number (new_parked offsets ws) cs in
      record {
        fits = fits;
        sound = subst SoundSaves (sym (new_saves-nat f g)) new_saves-sound;
        host = refl;
        written = ap (λ q. written_of_orders (parked_as q) cs) (sym (new_saves-nat f g));
      }

  numbered : (cs : List CallersOrder) → All OrderFits cs → map bare_answered (run_orders cs (new_parked offsets ws))
      ≡ map (map_answered (host_number cs) (written_number (new_parked offsets ws) cs) itself) (numbered_run 0 0 cs new_saves)
  numbered cs fits =
      let f : ℕ → ℕ = host_number cs in
      let g : ℕ → ℕ = written_number (new_parked offsets ws) cs in
      ap (λ q. map bare_answered (run_orders cs (parked_as q))) (sym (new_saves-nat f g))
      ∙ run-numbered (host_of_orders cs) (written_of_orders (new_parked offsets ws) cs) 0 0 cs new_saves (here cs fits)

  pub one-list-of-orders : (cs ds : List CallersOrder) → All OrderFits cs → All OrderFits ds → OrdersAlike (new_parked offsets ws) cs ds
      → OneListOfOrders offsets ws cs ds
  one-list-of-orders cs ds fits fits' a =
      let f : ℕ → ℕ = host_number cs in
      let g : ℕ → ℕ = written_number (new_parked offsets ws) cs in
      let hs : List ℕ = host_of_orders cs in
      let wr : List ℕ = written_of_orders (new_parked offsets ws) cs in
      let same : numbered_run 0 0 cs new_saves ≡ numbered_run 0 0 ds new_saves =
      runs-one hs wr 0 0 cs ds new_saves (here cs fits) (subst (λ q. OrdersAlike (parked_as q) cs ds) (sym (new_saves-nat f g)) a) in
      record {
        answers = numbered_run 0 0 cs new_saves;
        first = numbered cs fits;
        second = numbered ds fits' ∙ ap (map (map_answered (host_number ds) (written_number (new_parked offsets ws) ds) itself)) (sym same);
        each =
            subst (λ q. EachOrder (parked_as q) 0 0 cs (numbered_run 0 0 cs new_saves)) (new_saves-nat f g)
            (each-order hs wr 0 0 cs new_saves (here cs fits) (λ f g p q. new_saves-nat f g));
      }

  -- demand 3, for every register map that set-up accepts: all answers agree, apart from the byte that a read of FIFO gives, the bytes
  -- handed out as sent and those of a saved form; these agree in count at every call, and each is the byte of the same number in both runs
  pub orders-agree-alike : (cs ds : List CallersOrder) → All OrderFits cs → All OrderFits ds → OrdersAlike (new_parked offsets ws) cs ds
      → OrdersAgree (host_number cs) (host_number ds) (written_number (new_parked offsets ws) cs)
      (written_number (new_parked offsets ws) ds)
      (new_parked offsets ws) 0 0 cs (run_orders cs (new_parked offsets ws)) (run_orders ds (new_parked offsets ws))
  orders-agree-alike cs ds fits fits' a =
      let o = one-list-of-orders cs ds fits fits' a in
      orders-agree _ _ _ _ o.each _ _ o.first o.second
