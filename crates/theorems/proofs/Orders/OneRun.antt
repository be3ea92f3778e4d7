-- A run of a list is one with numbers for bytes, each number replaced by its byte. Assumes nothing.
use Rattle.std.specs.Prelude.{◌≡◌, length, get_or, drop}
use Rattle.std.proofs.Math.Path.{refl, sym, ap, ap₂, subst}
use Rattle.std.proofs.Common.{◌∙◌}
use Prim.Native.Nat.{ℕ, ◌+◌}
use mathlib.Core.List.{List, [], ◌∷◌, ◌++◌, map, flat_map}
use Rattle.model.specs.State.{Uart}
use Rattle.model.specs.Limits.{All, cons}
use Rattle.model.proofs.Laws.Lists.{all_head}
use Rattle.form.specs.Cells.{Cell}
use Rattle.form.specs.Orders.{Answered, OrderStep, CallersOrder, order_step, run_orders}
use Rattle.theorems.specs.TwoRuns.Renamed.{map_uart, itself, forget, map_take, map_answer}
use Rattle.theorems.specs.TwoRuns.Numbered.{without_rest}
use Rattle.theorems.proofs.TwoRuns.Numbering.{past}
use Rattle.theorems.proofs.TwoRuns.Theorem.{bare-mapped}
use Rattle.theorems.specs.Orders.Renamed.{map_cell, Saves, placed_step, map_saves, map_answered, map_order_step}
use Rattle.theorems.specs.Orders.Natural.{order-nat}
use Rattle.theorems.specs.Orders.Alike.{order_host, order_written, host_of_orders, written_of_orders}
use Rattle.theorems.proofs.Orders.Numbering.{placed_order, numbered_order, uart-itself, order-back}
use Rattle.theorems.proofs.Orders.Stands.{OrderFits, SoundSaves, parked_as, order-as, order-sound}

-- ---- without the rest of a lent buffer

-- of which only the length is kept
unfoldable pub bare_answered : Answered ℕ ℕ ℕ → Answered ℕ ℕ (Unit {0})
bare_answered (Answered.answers a) = Answered.answers (without_rest a)
bare_answered (Answered.saves t) = Answered.saves (record { taken = t.taken; front = t.front; rest = map (λ b. tt) t.rest })
bare_answered (Answered.loads r) = Answered.loads r

cells-itself : (cs : List (Cell ℕ ℕ)) → map (map_cell itself itself) cs ≡ cs
unfolding map_cell
cells-itself [] = refl
cells-itself (Cell.number n ∷ cs) = ap (λ l. Cell.number n ∷ l) (cells-itself cs)
cells-itself (Cell.host b ∷ cs) = ap (λ l. Cell.host b ∷ l) (cells-itself cs)
cells-itself (Cell.written b ∷ cs) = ap (λ l. Cell.written b ∷ l) (cells-itself cs)

bare-answered : (a : Answered ℕ ℕ ℕ) → bare_answered a ≡ map_answered itself itself forget a
unfolding bare_answered map_answered map_take map_answer without_rest forget
bare-answered (Answered.answers a) =
    ap (λ r. Answered.answers (record { reply = r; report = a.report })) (bare-mapped a.reply)
bare-answered (Answered.saves t) =
    ap (λ cs. Answered.saves (record { taken = t.taken; front = cs; rest = map (λ b. tt) t.rest })) (sym (cells-itself t.front))
bare-answered (Answered.loads r) = refl

all_tail : {A : Type 0} {P : A → Type 0} {x : A} {l : List A} → All P (x ∷ l) → All P l
all_tail (cons p a) = a

-- ---- the numbered run

-- h host bytes and w written ones were given before
unfoldable pub numbered_run : ℕ → ℕ → List CallersOrder → Saves ℕ ℕ → List (Answered ℕ ℕ (Unit {0}))
numbered_run h w [] q = []
numbered_run h w (o ∷ os) q =
    let s : OrderStep ℕ ℕ (Unit {0}) (Uart ℕ ℕ) = placed_step (numbered_order q.uart.map.offsets h w o) q in
    s.answer ∷ numbered_run (h + length (order_host o)) (w + length (order_written q.uart.map.offsets o)) os s.next

uarts-itself : (us : List (Uart ℕ ℕ)) → map (map_uart itself itself) us ≡ us
uarts-itself [] = refl
uarts-itself (u ∷ us) = ap₂ ◌∷◌ (uart-itself u) (uarts-itself us)

saves-itself : (q : Saves ℕ ℕ) → map_saves itself itself q ≡ q
saves-itself q = ap₂ (λ u us. record { uart = u; kept = us }) (uart-itself q.uart) (uarts-itself q.kept)

module _ (hs ws : List ℕ) where
  abbrev f : ℕ → ℕ
  f n = get_or hs n 0

  abbrev g : ℕ → ℕ
  g n = get_or ws n 0

  module _ (h w : ℕ) (o : CallersOrder) (q : Saves ℕ ℕ) (r s : List ℕ) (sixteen : length q.uart.map.offsets ≡ 16)
      (p : drop h hs ≡ order_host o ++ r) (t : drop w ws ≡ order_written q.uart.map.offsets o ++ s) where
    abbrev placed : OrderStep ℕ ℕ ℕ (Uart ℕ ℕ)
    placed = placed_step (placed_order q.uart.map.offsets o) (map_saves f g q)

    abbrev numbered : OrderStep ℕ ℕ (Unit {0}) (Uart ℕ ℕ)
    numbered = placed_step (numbered_order q.uart.map.offsets h w o) q

    step-numbered : map_order_step itself itself forget placed ≡ map_order_step f g itself numbered
    step-numbered =
        sym (order-nat itself itself forget (placed_order q.uart.map.offsets o) (map_saves f g q))
        ∙ ap₂ placed_step (sym (order-back hs ws q.uart.map.offsets sixteen h w o r s p t)) (saves-itself (map_saves f g q))
        ∙ order-nat f g itself (numbered_order q.uart.map.offsets h w o) q

    pub answer-numbered : bare_answered placed.answer ≡ map_answered f g itself numbered.answer
    unfolding map_order_step
    answer-numbered = bare-answered placed.answer ∙ ap (λ x. x.answer) step-numbered

    pub next-numbered : placed.next ≡ map_saves f g numbered.next
    unfolding map_order_step
    next-numbered = sym (saves-itself placed.next) ∙ ap (λ x. x.next) step-numbered

  -- the UART with its saves after the order is that of the numbered run, its bytes looked up
  pub parked-next : (h w : ℕ) (o : CallersOrder) (os : List CallersOrder) (q : Saves ℕ ℕ) → SoundSaves (map_saves f g q)
      → drop h hs ≡ host_of_orders (o ∷ os) → drop w ws ≡ written_of_orders (parked_as (map_saves f g q)) (o ∷ os)
      → (order_step o (parked_as (map_saves f g q))).next
      ≡ parked_as (map_saves f g (placed_step (numbered_order q.uart.map.offsets h w o) q).next)
  unfolding flat_map written_of_orders
  parked-next h w o os q s p t =
      ap (λ x. x.next) (order-as o (map_saves f g q) s)
      ∙ ap parked_as (next-numbered h w o q (host_of_orders os) (written_of_orders (order_step o (parked_as (map_saves f g q))).next os)
      s.uart.0.sixteen p t)

  -- what holds of it where the next order is asked
  pub record Here (h w : ℕ) (os : List CallersOrder) (q : Saves ℕ ℕ) : Type 0 where
    pub fits : All OrderFits os
    pub sound : SoundSaves (map_saves f g q)
    pub host : drop h hs ≡ host_of_orders os
    pub written : drop w ws ≡ written_of_orders (parked_as (map_saves f g q)) os

  abbrev pub numbered_next : ℕ → ℕ → CallersOrder → Saves ℕ ℕ → Saves ℕ ℕ
  numbered_next h w o q = (placed_step (numbered_order q.uart.map.offsets h w o) q).next

  pub here-next : (h w : ℕ) (o : CallersOrder) (os : List CallersOrder) (q : Saves ℕ ℕ) → Here h w (o ∷ os) q
      → Here (h + length (order_host o)) (w + length (order_written q.uart.map.offsets o)) os (numbered_next h w o q)
  unfolding flat_map written_of_orders
  here-next h w o os q e =
      let P : Saves ℕ ℕ = map_saves f g q in
      let rest : List ℕ = written_of_orders (order_step o (parked_as P)).next os in
      record {
        fits = all_tail e.fits;
        sound =
            subst SoundSaves (next-numbered h w o q (host_of_orders os) rest e.sound.uart.0.sixteen e.host e.written)
            (order-sound o P (all_head e.fits) e.sound);
        host = past 0 hs h (order_host o) (host_of_orders os) e.host;
        written =
            past 0 ws w (order_written q.uart.map.offsets o) rest e.written
            ∙ ap (λ x. written_of_orders x os) (parked-next h w o os q e.sound e.host e.written);
      }

  pub run-numbered : (h w : ℕ) (os : List CallersOrder) (q : Saves ℕ ℕ) → Here h w os q
      → map bare_answered (run_orders os (parked_as (map_saves f g q))) ≡ map (map_answered f g itself) (numbered_run h w os q)
  unfolding run_orders numbered_run flat_map written_of_orders
  run-numbered h w [] q e = refl
  run-numbered h w (o ∷ os) q e =
      let P : Saves ℕ ℕ = map_saves f g q in
      let rest : List ℕ = written_of_orders (order_step o (parked_as P)).next os in
      ap₂ ◌∷◌
      (ap (λ x. bare_answered x.answer) (order-as o P e.sound)
      ∙ answer-numbered h w o q (host_of_orders os) rest e.sound.uart.0.sixteen e.host e.written)
      (ap (λ x. map bare_answered (run_orders os x)) (parked-next h w o os q e.sound e.host e.written)
      ∙ run-numbered (h + length (order_host o)) (w + length (order_written q.uart.map.offsets o)) os (numbered_next h w o q)
      (here-next h w o os q e))
