-- Each number in the answer to an order is below the count of bytes given by then, by naturality as for calls. Assumes nothing.
use Rattle.std.specs.Prelude.{◌≡◌, refl, ℕ, ◌+◌, ◌≤◌, List, [], ◌∷◌, ◌++◌, map, length}
use Rattle.std.proofs.Common.{sym, ap₂, ◌∙◌, suc-ne-zero, arith, map-id, length-append}
use Rattle.std.proofs.Math.Path.{ap}
use Rattle.std.proofs.Math.Option.{Option, none, some}
use Rattle.std.proofs.lemmas.List.{length-map}
use Rattle.model.specs.State.{Sent, OnTheLine, Uart, line_bytes}
use Rattle.model.specs.Calls.{written}
use Rattle.model.specs.Limits.{All}
use Rattle.model.proofs.Laws.Placed.{placed_asked}
use Rattle.form.specs.Cells.{Cell}
use Rattle.form.specs.Load.{Loading, loaded, refused, load}
use Rattle.form.specs.Orders.{Order, Answered, LoadOf, CallersOrder, OrderStep}
use Rattle.theorems.specs.TwoRuns.Renamed.{map_sent, map_receiving, map_uart, itself, forget, map_take}
use Rattle.theorems.specs.TwoRuns.Numbered.{Below}
use Rattle.theorems.proofs.TwoRuns.Numbering.{host-of-placed, written-of-placed}
use Rattle.theorems.proofs.TwoRuns.Bounds.{Keeps, shifted, shifted-keeps, kept-below, up_from-fixed, asked-fixed, below-fixed}
use Rattle.theorems.specs.Orders.Renamed.{map_cell, map_loading, LoadFrom, Saves, placed_step, map_from, map_saves, map_order, map_answered}
use Rattle.theorems.specs.Orders.Renamed.{map_order_step}
use Rattle.theorems.specs.Orders.Natural.{order-nat}
use Rattle.theorems.specs.Orders.Alike.{host_bytes, loaded_host, loaded_written, order_host, order_written}
use Rattle.theorems.specs.Orders.Agree.{CellBelow}
use Rattle.theorems.proofs.Orders.Numbering.{numbered_flight, numbered_uart, numbered_loading, numbered_order}

-- ---- what an answer holds

unfoldable pub BelowAnswered : ℕ → ℕ → Answered ℕ ℕ (Unit {0}) → Type 0
BelowAnswered h w (Answered.answers a) = Below h w a
BelowAnswered h w (Answered.saves t) = All (CellBelow h w) t.front
BelowAnswered h w (Answered.loads r) = Unit {0}

cell_below : (h w : ℕ) (c : Cell ℕ ℕ) → map_cell (shifted h) (shifted w) c ≡ c → CellBelow h w c
unfolding map_cell
cell_below h w (Cell.number n) e = tt
cell_below h w (Cell.host n) e = let p : shifted h n ≡ n = cc in kept-below h n p
cell_below h w (Cell.written n) e = let p : shifted w n ≡ n = cc in kept-below w n p

cells-below : (h w : ℕ) (cs : List (Cell ℕ ℕ)) → map (map_cell (shifted h) (shifted w)) cs ≡ cs → All (CellBelow h w) cs
cells-below h w [] e = All.nil
cells-below h w (c ∷ cs) e =
    let p : map_cell (shifted h) (shifted w) c ≡ c = cc in
    let q : map (map_cell (shifted h) (shifted w)) cs ≡ cs = cc in
    All.cons (cell_below h w c p) (cells-below h w cs q)

answered-below : (h w : ℕ) (a : Answered ℕ ℕ (Unit {0})) → map_answered (shifted h) (shifted w) itself a ≡ a → BelowAnswered h w a
unfolding map_answered map_take BelowAnswered
answered-below h w (Answered.answers a) e = below-fixed h w a (cc)
answered-below h w (Answered.saves t) e =
    let p : map_take (map_cell (shifted h) (shifted w)) itself t ≡ t = cc in
    cells-below h w t.front (ap (λ x. x.front) p)
answered-below h w (Answered.loads r) e = tt

-- ---- a numbered order has no number from its counts on

flight-fixed : {W : Type 0} (n : ℕ) (g : ℕ → ℕ) → Keeps n g → (w : ℕ) (ss : List (Sent W)) → w + length ss ≤ n
    → map (map_sent g) (numbered_flight w ss) ≡ numbered_flight w ss
unfolding numbered_flight
flight-fixed n g p w [] le = refl
flight-fixed n g p w (s ∷ ss) le =
    ap₂ (λ (b : ℕ) l. record { gone_at = s.gone_at; byte = b } ∷ l) (p w (omega (arith, le)))
    (flight-fixed n g p (w + 1) ss (omega (arith, le)))

receiving-fixed : {H : Type 0} (n : ℕ) (f : ℕ → ℕ) → Keeps n f → (h : ℕ) (r : Option (OnTheLine H)) → h + length (line_bytes r) ≤ n
    → map_receiving f (map_receiving (λ b. h) r) ≡ map_receiving (λ b. h) r
unfolding map_receiving
receiving-fixed n f p h none le = refl
receiving-fixed n f p h (some l) le = ap (λ (b : ℕ). some (record { byte = b; frame = l.frame })) (p h (omega (arith, le)))

uart-fixed : (h w : ℕ) (u : Uart ℕ ℕ) (f g : ℕ → ℕ) → Keeps (h + length (host_bytes u)) f → Keeps (w + length (written u)) g
    → map_uart f g (numbered_uart h w u) ≡ numbered_uart h w u
unfolding numbered_uart written
uart-fixed h w u f g p q =
    let line : List ℕ = line_bytes u.receiving in
    let flying : List ℕ = map (λ s. s.byte) u.in_flight in
    let n : ℕ = h + length (line ++ (u.host ++ u.rx)) in
    let m : ℕ = w + length (u.tx ++ flying) in
    let few : n ≡ h + (length line + (length u.host + length u.rx)) =
    omega (arith, length-append line (u.host ++ u.rx), length-append u.host u.rx) in
    let fewer : m ≡ w + (length u.tx + length u.in_flight) =
    omega (arith, length-append u.tx flying, length-map u.in_flight (λ s. s.byte)) in
    rw (
      flight-fixed m g q (w + length u.tx) u.in_flight (omega (arith, fewer)),
      up_from-fixed m g q w (length u.tx) (omega (arith, fewer)),
      up_from-fixed n f p (h + length line) (length u.host) (omega (arith, few)),
      receiving-fixed n f p h u.receiving (omega (arith, few)),
      up_from-fixed n f p (h + length line + length u.host) (length u.rx) (omega (arith, few)),
    ) refl

loading-fixed : (h w : ℕ) (l : Loading ℕ ℕ) (f g : ℕ → ℕ) → Keeps (h + length (loaded_host l)) f → Keeps (w + length (loaded_written l)) g
    → map_loading f g (numbered_loading h w l) ≡ numbered_loading h w l
unfolding map_loading numbered_loading loaded_host loaded_written
loading-fixed h w (loaded u) f g p q = ap loaded (uart-fixed h w u f g p q)
loading-fixed h w (refused r) f g p q = refl

placed-fixed : (fifo : ℕ) (others : List ℕ) (h w : ℕ) (o : CallersOrder) (f g : ℕ → ℕ) → Keeps (h + length (order_host o)) f
    → Keeps (w + length (order_written (fifo ∷ others) o)) g
    → map_order f g itself (numbered_order (fifo ∷ others) h w o) ≡ numbered_order (fifo ∷ others) h w o
unfolding map_order map_from numbered_order order_host order_written
placed-fixed fifo others h w (Order.ask a) f g p q =
    ap Order.ask (asked-fixed h w (placed_asked (fifo ∷ others) a) f g
    (λ n l. p n (rw (← host-of-placed (fifo ∷ others) a) l)) (λ n l. q n (rw (← written-of-placed fifo others a) l)))
placed-fixed fifo others h w (Order.to_save lent) f g p q = ap Order.to_save (map-id (map forget lent))
placed-fixed fifo others h w (Order.to_load (LoadOf.bytes bs)) f g p q =
    ap (λ l. Order.to_load (LoadFrom.given l)) (loading-fixed h w (load bs) f g p q)
placed-fixed fifo others h w (Order.to_load (LoadOf.save k)) f g p q = refl

order-fixed : (offsets : List ℕ) → length offsets ≡ 16 → (h w : ℕ) (o : CallersOrder) (f g : ℕ → ℕ)
    → Keeps (h + length (order_host o)) f → Keeps (w + length (order_written offsets o)) g
    → map_order f g itself (numbered_order offsets h w o) ≡ numbered_order offsets h w o
order-fixed [] e h w o f g p q = absurd (suc-ne-zero _ (sym e))
order-fixed (fifo ∷ others) e h w o f g p q = placed-fixed fifo others h w o f g p q

-- ---- a step

-- a UART and saves that hold no number from the counts on
abbrev pub FixedSaves : ℕ → ℕ → Saves ℕ ℕ → Type 0
FixedSaves h w q = (f g : ℕ → ℕ) → Keeps h f → Keeps w g → map_saves f g q ≡ q

module _ (h w : ℕ) (o : CallersOrder) (q : Saves ℕ ℕ) (sixteen : length q.uart.map.offsets ≡ 16) (k : FixedSaves h w q) where
  abbrev given : ℕ
  given = h + length (order_host o)

  abbrev sent : ℕ
  sent = w + length (order_written q.uart.map.offsets o)

  abbrev step : OrderStep ℕ ℕ (Unit {0}) (Uart ℕ ℕ)
  step = placed_step (numbered_order q.uart.map.offsets h w o) q

  step-fixed : (f g : ℕ → ℕ) → Keeps given f → Keeps sent g → map_order_step f g itself step ≡ step
  step-fixed f g p r =
      sym (order-nat f g itself (numbered_order q.uart.map.offsets h w o) q)
      ∙ ap₂ placed_step (order-fixed q.uart.map.offsets sixteen h w o f g p r)
      (k f g (λ n l. p n (omega (arith, l))) (λ n l. r n (omega (arith, l))))

  pub next-fixed : FixedSaves given sent step.next
  unfolding map_order_step
  next-fixed f g p r = ap (λ s. s.next) (step-fixed f g p r)

  pub answer-below : BelowAnswered given sent step.answer
  unfolding map_order_step
  answer-below =
      answered-below given sent step.answer
      (ap (λ s. s.answer) (step-fixed (shifted given) (shifted sent) (shifted-keeps given) (shifted-keeps sent)))
