-- What demand 3 claims of the answers to calls, rows, saves and loads: when those of two runs agree. Assumes nothing.
use Rattle.std.specs.Prelude.{◌≡◌, ℕ, ◌+◌, ◌<◌, List, [], ◌∷◌, map, length}
use Rattle.std.proofs.Math.Option.{Option}
use Rattle.model.specs.Limits.{All}
use Rattle.model.specs.Call.{Request, Asked, Reply, rows}
use Rattle.form.specs.Cells.{Cell}
use Rattle.form.specs.Orders.{Order, Answered, LoadOf, CallersOrder, Parked, order_step}
use Rattle.theorems.specs.TwoRuns.Alike.{fifo_offset}
use Rattle.theorems.specs.TwoRuns.AgreeBy.{AgreeBy}
use Rattle.theorems.specs.Orders.Renamed.{map_cell}
use Rattle.theorems.specs.Orders.Alike.{order_host, order_written}
use Rattle.model.specs.declared.Report.{Report}
use Rattle.model.specs.Names.{Row, Taken}
use Rattle.form.specs.declared.NotLoaded.{NotLoaded}

-- a cell of a form with numbers for bytes: the number of a host byte is below h, and that of a written one below w
abbrev pub CellBelow : ℕ → ℕ → Cell ℕ ℕ → Type 0
CellBelow h w (Cell.number n) = Unit {0}
CellBelow h w (Cell.host n) = n < h
CellBelow h w (Cell.written n) = n < w

-- what a number stands for: f and g look up a host byte and a written one of the first list, f' and g' of the second
module _ (f f' g g' : ℕ → ℕ) where
  -- where the map has these offsets, and h host bytes and w written ones have been given. A call's answer agrees as in AgreeBy, a row's is
  -- the same, and so is a load's. Saved bytes are one list of cells, of which each byte has the same number in both and all else is equal
  pub data OrderAgree (offsets : List ℕ) (h w : ℕ) : CallersOrder → Answered ℕ ℕ ℕ → Answered ℕ ℕ ℕ → Type 0 where
    call : {c : Request} {r : Report} {x y : Reply ℕ ℕ ℕ} → AgreeBy (fifo_offset offsets) f f' g g' h w r c x y
        → OrderAgree offsets h w (Order.ask (Asked.call c)) (Answered.answers (record { reply = x; report = r }))
        (Answered.answers (record { reply = y; report = r }))
    row : {now : ℕ} {bs : List ℕ} {r : Report} {x : Row} → OrderAgree offsets h w (Order.ask (Asked.row now bs))
        (Answered.answers (record { reply = rows x; report = r })) (Answered.answers (record { reply = rows x; report = r }))
    saves : {lent : List ℕ} {t : Taken} {cs : List (Cell ℕ ℕ)} {rest rest' : List ℕ} → All (CellBelow h w) cs → length rest ≡ length rest'
        → OrderAgree offsets h w (Order.to_save lent) (Answered.saves (record { taken = t; front = map (map_cell f g) cs; rest = rest }))
        (Answered.saves (record { taken = t; front = map (map_cell f' g') cs; rest = rest' }))
    loads : {l : LoadOf} {r : Option NotLoaded} → OrderAgree offsets h w (Order.to_load l) (Answered.loads r) (Answered.loads r)

  -- one by one, the first list asked of p, h host bytes and w written ones having been given before
  pub data OrdersAgree : Parked → ℕ → ℕ → List CallersOrder → List (Answered ℕ ℕ ℕ) → List (Answered ℕ ℕ ℕ) → Type 0 where
    nil : {p : Parked} {h w : ℕ} → OrdersAgree p h w [] [] []
    cons : {p : Parked} {h w : ℕ} {o : CallersOrder} {os : List CallersOrder} {x y : Answered ℕ ℕ ℕ} {xs ys : List (Answered ℕ ℕ ℕ)}
        → OrderAgree p.uart.map.offsets (h + length (order_host o)) (w + length (order_written p.uart.map.offsets o)) o x y
        → OrdersAgree (order_step o p).next (h + length (order_host o)) (w + length (order_written p.uart.map.offsets o)) os xs ys
        → OrdersAgree p h w (o ∷ os) (x ∷ xs) (y ∷ ys)
