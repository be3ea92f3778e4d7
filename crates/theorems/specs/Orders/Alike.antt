-- When two lists of calls, rows, saves and loads are alike, and how their bytes are numbered: what a reader of demand 3 must believe.
-- Assumes nothing.
use Rattle.std.specs.Prelude.{◌≡◌, ℕ, length, get_or}
use mathlib.Core.List.{List, [], ◌∷◌, ◌++◌, flat_map}
use Rattle.model.specs.State.{Uart, line_bytes}
use Rattle.model.specs.Calls.{written}
use Rattle.model.specs.Call.{Ask}
use Rattle.form.specs.Load.{Loading, loaded, refused, load}
use Rattle.form.specs.Orders.{Order, LoadOf, CallersOrder, Parked, order_step}
use Rattle.theorems.specs.TwoRuns.Alike.{AskedAlike, fifo_offset, host_given, fifo_given}
use Rattle.theorems.specs.TwoRuns.InUse.{AlikeInUse}
use Rattle.theorems.specs.TwoRuns.Renamed.{forget, map_uart}
use Rattle.form.specs.declared.NotLoaded.{NotLoaded}

-- ---- alike

-- two states that differ at most in the values of bytes, so that their forms differ only in cells of bytes
abbrev pub SameButBytes : Uart ℕ ℕ → Uart ℕ ℕ → Type 0
SameButBytes u v = map_uart forget forget u ≡ map_uart forget forget v

pub data LoadsAlike : Loading ℕ ℕ → Loading ℕ ℕ → Type 0 where
  both_refused : {r : NotLoaded} → LoadsAlike (refused r) (refused r)
  both_loaded : {u v : Uart ℕ ℕ} → SameButBytes u v → LoadsAlike (loaded u) (loaded v)

-- two orders where the register map has these offsets. A load of a save names the same one in both
pub data OrderAlike (offsets : List ℕ) : CallersOrder → CallersOrder → Type 0 where
  ask : {a b : Ask} → AskedAlike (AlikeInUse offsets) a b → OrderAlike offsets (Order.ask a) (Order.ask b)
  to_save : {lent lent' : List ℕ} → length lent ≡ length lent' → OrderAlike offsets (Order.to_save lent) (Order.to_save lent')
  load_bytes : {bs bs' : List ℕ} → LoadsAlike (load bs) (load bs')
      → OrderAlike offsets (Order.to_load (LoadOf.bytes bs)) (Order.to_load (LoadOf.bytes bs'))
  load_save : {k : ℕ} → OrderAlike offsets (Order.to_load (LoadOf.save k)) (Order.to_load (LoadOf.save k))

-- two lists, one by one, where the first is asked of p: a load that is carried out brings its register map
pub data OrdersAlike : Parked → List CallersOrder → List CallersOrder → Type 0 where
  nil : {p : Parked} → OrdersAlike p [] []
  cons : {p : Parked} {o o' : CallersOrder} {os os' : List CallersOrder} → OrderAlike p.uart.map.offsets o o'
      → OrdersAlike (order_step o p).next os os' → OrdersAlike p (o ∷ os) (o' ∷ os')

-- ---- the numbering

-- the bytes of a state in the order of its form
abbrev pub host_bytes : Uart ℕ ℕ → List ℕ
host_bytes u = line_bytes u.receiving ++ (u.host ++ u.rx)

unfoldable pub loaded_host : Loading ℕ ℕ → List ℕ
loaded_host (loaded u) = host_bytes u
loaded_host (refused r) = []

unfoldable pub loaded_written : Loading ℕ ℕ → List ℕ
loaded_written (loaded u) = written u
loaded_written (refused r) = []

-- what an order gives: a load of bytes gives those of the state that it brings, and a load of a save none, whose bytes have their numbers
unfoldable pub order_host : CallersOrder → List ℕ
order_host (Order.ask a) = host_given a
order_host (Order.to_save lent) = []
order_host (Order.to_load (LoadOf.bytes bs)) = loaded_host (load bs)
order_host (Order.to_load (LoadOf.save k)) = []

unfoldable pub order_written : List ℕ → CallersOrder → List ℕ
order_written offsets (Order.ask a) = fifo_given (fifo_offset offsets) a
order_written offsets (Order.to_save lent) = []
order_written offsets (Order.to_load (LoadOf.bytes bs)) = loaded_written (load bs)
order_written offsets (Order.to_load (LoadOf.save k)) = []

-- of a whole list, asked of p
abbrev pub host_of_orders : List CallersOrder → List ℕ
host_of_orders os = flat_map order_host os

unfoldable pub written_of_orders : Parked → List CallersOrder → List ℕ
written_of_orders p [] = []
written_of_orders p (o ∷ os) = order_written p.uart.map.offsets o ++ written_of_orders (order_step o p).next os

-- the n-th host byte of a list and the n-th byte written to FIFO, both from 0, refused and dropped ones too
abbrev pub host_number : List CallersOrder → ℕ → ℕ
host_number os n = get_or (host_of_orders os) n 0

abbrev pub written_number : Parked → List CallersOrder → ℕ → ℕ
written_number p os n = get_or (written_of_orders p os) n 0
