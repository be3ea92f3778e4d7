-- An order, what it is answered and a UART with its saves, with other bytes: each byte replaced by what a function makes of it.
-- Assumes nothing.
use Rattle.std.specs.Prelude.{ℕ, zero, suc, List, [], ◌∷◌, map}
use Rattle.model.specs.State.{Uart}
use Rattle.model.specs.Call.{Asked}
use Rattle.model.proofs.Laws.Placed.{Placed, step_placed}
use Rattle.model.specs.Run.{asked_by}
use Rattle.form.specs.Cells.{Cell}
use Rattle.form.specs.Load.{Loading, loaded, refused}
use Rattle.form.specs.Orders.{Order, Answered, WithSaves, OrderStep, order_by}
use Rattle.theorems.specs.TwoRuns.Renamed.{map_uart, map_take, map_answer}
use Rattle.theorems.specs.TwoRuns.NaturalRuns.{map_asked}
use Rattle.form.specs.declared.NotLoaded.TheVariants.{Layout}

module _ {H H' W W' : Type 0} (f : H → H') (g : W → W') where
  unfoldable pub map_cell : Cell H W → Cell H' W'
  map_cell (Cell.number n) = Cell.number n
  map_cell (Cell.host b) = Cell.host (f b)
  map_cell (Cell.written b) = Cell.written (g b)

  unfoldable pub map_loading : Loading H W → Loading H' W'
  map_loading (loaded u) = loaded (map_uart f g u)
  map_loading (refused r) = refused r

-- what a load finds where bytes are of any type: a state, given whole, or the one that was saved with that number
pub data LoadFrom (H W : Type 0) : Type 0 where
  given : Loading H W → LoadFrom H W
  save : ℕ → LoadFrom H W

-- a load of a save that was not made is refused as one of no bytes is
unfoldable pub nth_save : {H W : Type 0} → ℕ → List (Uart H W) → Loading H W
nth_save k [] = refused Layout
nth_save zero (u ∷ us) = loaded u
nth_save (suc k) (u ∷ us) = nth_save k us

unfoldable pub find_state : {H W : Type 0} → LoadFrom H W → List (Uart H W) → Loading H W
find_state (LoadFrom.given l) kept = l
find_state (LoadFrom.save k) kept = nth_save k kept

-- an order whose offsets have become registers, so that it looks into no byte
abbrev pub PlacedOrder : (H W L : Type 0) → Type 0
PlacedOrder H W L = Order (Asked (Placed H W L) W) L (LoadFrom H W)

-- a UART with the states that were saved
abbrev pub Saves : (H W : Type 0) → Type 0
Saves H W = WithSaves H W (Uart H W)

abbrev pub placed_step : {H W L : Type 0} → PlacedOrder H W L → Saves H W → OrderStep H W L (Uart H W)
placed_step o p = order_by (λ a u. asked_by step_placed a u) (λ u. u) find_state o p

module _ {H H' W W' : Type 0} (f : H → H') (g : W → W') where
  unfoldable pub map_from : LoadFrom H W → LoadFrom H' W'
  map_from (LoadFrom.given l) = LoadFrom.given (map_loading f g l)
  map_from (LoadFrom.save k) = LoadFrom.save k

  abbrev pub map_saves : Saves H W → Saves H' W'
  map_saves p = record { uart = map_uart f g p.uart; kept = map (map_uart f g) p.kept }

  module _ {L L' : Type 0} (h : L → L') where
    unfoldable pub map_order : PlacedOrder H W L → PlacedOrder H' W' L'
    map_order (Order.ask a) = Order.ask (map_asked f g h a)
    map_order (Order.to_save lent) = Order.to_save (map h lent)
    map_order (Order.to_load l) = Order.to_load (map_from l)

    unfoldable pub map_answered : Answered H W L → Answered H' W' L'
    map_answered (Answered.answers a) = Answered.answers (map_answer f g h a)
    map_answered (Answered.saves t) = Answered.saves (map_take (map_cell f g) h t)
    map_answered (Answered.loads r) = Answered.loads r

    unfoldable pub map_order_step : OrderStep H W L (Uart H W) → OrderStep H' W' L' (Uart H' W')
    map_order_step s = record { answer = map_answered s.answer; next = map_saves s.next }
