-- Orders without a client's bytes: calls and rows as in Blanked, and of a load the bytes of its form. Assumes nothing.
use Rattle.std.specs.Prelude.{ℕ, List, [], ◌∷◌, map}
use Rattle.model.specs.State.{Uart}
use Rattle.form.specs.Cells.{bytes_of}
use Rattle.form.specs.Form.{form}
use Rattle.form.specs.Load.{Loading, loaded, refused, load}
use Rattle.form.specs.Examples.{no_parts}
use Rattle.form.specs.Orders.{Order, LoadOf, CallersOrder, Parked, order_step}
use Rattle.theorems.specs.Blanked.{blank_byte, blanked_asked}
use Rattle.theorems.specs.TwoRuns.Renamed.{map_uart}
use Rattle.form.specs.declared.NotLoaded.TheVariants.{Layout, NoState}

-- every byte of a state is replaced by 0
abbrev pub blanked_state : Uart ℕ ℕ → Uart ℕ ℕ
blanked_state u = map_uart blank_byte blank_byte u

-- of a load that is refused only the number is kept: no bytes are 10, seven parts of no length 11
unfoldable pub blanked_loading : Loading ℕ ℕ → List ℕ
blanked_loading (loaded u) = bytes_of (form (blanked_state u))
blanked_loading (refused Layout) = []
blanked_loading (refused NoState) = no_parts

unfoldable pub blanked_order : List ℕ → CallersOrder → CallersOrder
blanked_order offsets (Order.ask a) = Order.ask (blanked_asked offsets a)
blanked_order offsets (Order.to_save lent) = Order.to_save (map blank_byte lent)
blanked_order offsets (Order.to_load (LoadOf.bytes bs)) = Order.to_load (LoadOf.bytes (blanked_loading (load bs)))
blanked_order offsets (Order.to_load (LoadOf.save k)) = Order.to_load (LoadOf.save k)

-- the list that is sent out: each order by the register map that the UART then has, which a load may bring
unfoldable pub blanked_orders : Parked → List CallersOrder → List CallersOrder
blanked_orders p [] = []
blanked_orders p (o ∷ os) = blanked_order p.uart.map.offsets o ∷ blanked_orders (order_step o p).next os
