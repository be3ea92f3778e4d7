-- What is asked of a UART that may be parked: calls and rows, saves and loads; and whole lists of them. Assumes nothing.
use Rattle.std.specs.Prelude.{ℕ, List, [], ◌∷◌, ◌++◌, get_or, Ok, Err}
use Rattle.std.proofs.Math.Option.{Option, none, some}
use Rattle.model.specs.State.{Uart}
use Rattle.model.specs.Replies.{Take}
use Rattle.model.specs.Call.{Ask, Answer}
use Rattle.model.specs.Run.{Step, asked}
use Rattle.form.specs.Cells.{Cell, bytes_of}
use Rattle.form.specs.Form.{form}
use Rattle.form.specs.Load.{Loading, loaded, refused, load, saved}
use Rattle.model.specs.Names.{Taken}
use Rattle.form.specs.declared.NotLoaded.{NotLoaded}

-- A is a call or a row, L what a lent buffer holds, F what is loaded
pub data Order (A L F : Type 0) : Type 0 where
  ask : A → Order A L F
  to_save : List L → Order A L F
  to_load : F → Order A L F

pub data Answered (H W L : Type 0) : Type 0 where
  answers : Answer H W L → Answered H W L
  saves : Take (Cell H W) L → Answered H W L
  -- none: it was loaded
  loads : Option NotLoaded → Answered H W L

-- a UART, and what was kept of each save that was carried out, the first one first
pub record WithSaves (H W S : Type 0) : Type 0 where
  pub uart : Uart H W
  pub kept : List S

pub record OrderStep (H W L S : Type 0) : Type 0 where
  pub answer : Answered H W L
  pub next : WithSaves H W S

-- a refused save takes no number
unfoldable pub kept_by : {S : Type 0} → Taken → S → List S → List S
kept_by (Ok n) s kept = kept ++ (s ∷ [])
kept_by (Err r) s kept = kept

-- a refused load leaves the UART in place
unfoldable pub loading : {H W L S : Type 0} → Loading H W → WithSaves H W S → OrderStep H W L S
loading (loaded u) p = record { answer = Answered.loads none; next = record { uart = u; kept = p.kept } }
loading (refused r) p = record { answer = Answered.loads (some r); next = p }

-- given what a call or row does, what is kept of a save and what a load finds
module _ {A F H W L S : Type 0} (does : A → Uart H W → Step H W L) (keep : Uart H W → S) (find : F → List S → Loading H W) where
  unfoldable pub order_by : Order A L F → WithSaves H W S → OrderStep H W L S
  order_by (Order.ask a) p = record {
    answer = Answered.answers (does a p.uart).answer;
    next = record { uart = (does a p.uart).state; kept = p.kept };
  }
  order_by (Order.to_save lent) p = record {
    answer = Answered.saves (saved lent p.uart).reply;
    next = record { uart = p.uart; kept = kept_by (saved lent p.uart).reply.taken (keep p.uart) p.kept };
  }
  order_by (Order.to_load f) p = loading (find f p.kept) p

-- ---- as a caller asks

-- bytes, or those that the save of that number wrote, from 0
pub data LoadOf : Type 0 where
  bytes : List ℕ → LoadOf
  save : ℕ → LoadOf

abbrev pub CallersOrder : Type 0
CallersOrder = Order Ask ℕ LoadOf

abbrev pub Parked : Type 0
Parked = WithSaves ℕ ℕ (List ℕ)

unfoldable pub find_bytes : LoadOf → List (List ℕ) → Loading ℕ ℕ
find_bytes (LoadOf.bytes bs) kept = load bs
find_bytes (LoadOf.save k) kept = load (get_or kept k [])

abbrev pub order_step : CallersOrder → Parked → OrderStep ℕ ℕ ℕ (List ℕ)
order_step o p = order_by asked (λ u. bytes_of (form u)) find_bytes o p

-- all answers of a list
unfoldable pub run_orders : List CallersOrder → Parked → List (Answered ℕ ℕ ℕ)
run_orders [] p = []
run_orders (o ∷ os) p = (order_step o p).answer ∷ run_orders os (order_step o p).next
