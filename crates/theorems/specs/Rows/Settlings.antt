-- Demand 1 of the settlings of a row, one for each write that is made: each is bounded and leaves nothing due, and they find all that
-- the row reports. Assumes a state within the limits.
use Rattle.std.specs.Prelude.{◌≡◌, take, Err}
use Rattle.std.proofs.Math.Path.{refl, ap₂}
use Prim.Native.Nat.{ℕ}
use Rattle.std.proofs.Common.{arith}
use Rattle.std.proofs.Math.Bool.{true}
use Rattle.std.proofs.Math.Option.{Option, none, some}
use mathlib.Core.List.{List, [], ◌∷◌, ◌++◌, flat_map}
use Rattle.std.proofs.Math.Dec.{eqb}
use borrow.Author.Tests.{eqb-true}
use Rattle.model.specs.State.{Uart}
use Rattle.model.specs.Replies.{number, write_number}
use Rattle.model.specs.Settle.{settle}
use Rattle.model.specs.Tests.{refuse_date}
use Rattle.model.specs.Calls.{Outcome, dated, refusing, unless, after_settling, carried, outcome, send}
use Rattle.model.specs.Row.{row_limit, fifo_write, writes, summed}
use Rattle.model.specs.Call.{Asked, Ask}
use Rattle.model.specs.Limits.{All, nil, cons, Within}
use Rattle.model.proofs.Laws.Choose.{choose-ind}
use Rattle.model.proofs.Keeps.EachCall.{send-within}
use Rattle.model.proofs.Ends.NothingDue.{settle-passes, settle-nothing-left}
use Rattle.model.proofs.Ends.Settlings.{Settling, settles, settlings, Settles, call-settles}
use Rattle.model.proofs.Refuses.Exactly.{number-positive}
use Rattle.model.specs.declared.Refusal.{Refusal}
use Rattle.model.specs.Names.{Write}

-- those of writes to FIFO that are made
unfoldable pub write_settlings : ℕ → Uart ℕ ℕ → List (Outcome Write ℕ ℕ) → List Settling
write_settlings now u [] = []
write_settlings now u (o ∷ os) = record { now = now; begins = dated now u } ∷ write_settlings now o.state os

-- those of a call or a row that is carried out, in order
abbrev pub asked_settlings : Ask → Uart ℕ ℕ → List Settling
asked_settlings (Asked.call c) u = settlings c u
asked_settlings (Asked.row now bs) u = write_settlings now u (writes now u (take row_limit bs))

module _ (now : ℕ) where
  writes-settle : (bs : List ℕ) (u : Uart ℕ ℕ) → Within u → All Settles (write_settlings now u (writes now u bs))
  unfolding writes write_settlings dated
  writes-settle [] u w = nil
  writes-settle (b ∷ bs) u w =
      choose-ind (λ (os : List (Outcome Write ℕ ℕ)). All Settles (write_settlings now u os)) _
      (λ _. cons (record { passes = settle-passes now (dated now u); quiet = settle-nothing-left now (dated now u) w.flying_dates })
      (writes-settle bs (fifo_write now u b).state (send-within now b u w)))
      (λ _. nil)

  -- a write that is made has settled
  write-found : (b : ℕ) (u : Uart ℕ ℕ) → eqb (write_number (fifo_write now u b).reply) 0 ≡ true
      → (fifo_write now u b).events ≡ (settle now (dated now u)).events
  unfolding outcome unless refusing carried after_settling send write_number
  write-found b u = by-test (refuse_date now u.control (send now b u).test)
    where
      by-test : (o : Option Refusal) → eqb (write_number (unless o Err (carried (some now) (send now b u)) u).reply) 0 ≡ true
          → (unless o Err (carried (some now) (send now b u)) u).events ≡ (settle now (dated now u)).events
      by-test none e = refl
      by-test (some r) e = absurd (omega (arith, eqb-true (number r) 0 e, number-positive r))

  found : (bs : List ℕ) (u : Uart ℕ ℕ)
      → flat_map (λ o. o.events) (writes now u bs) ≡ flat_map (λ s. (settles s).events) (write_settlings now u (writes now u bs))
  unfolding writes write_settlings flat_map
  found [] u = refl
  found (b ∷ bs) u =
      choose-ind
      (λ (os : List (Outcome Write ℕ ℕ)). flat_map (λ o. o.events) os ≡ flat_map (λ s. (settles s).events) (write_settlings now u os)) _
      (λ e. ap₂ ◌++◌ (write-found b u e) (found bs (fifo_write now u b).state)) (λ _. refl)

-- of every settling of every call and every row
pub asked-settles : (c : Ask) (u : Uart ℕ ℕ) → Within u → All Settles (asked_settlings c u)
asked-settles (Asked.call c) u w = call-settles c u w.flying_dates
asked-settles (Asked.row now bs) u w = writes-settle now (take row_limit bs) u w

-- what a row finds is what they find
pub row-found : (now : ℕ) (bs : List ℕ) (u : Uart ℕ ℕ)
    → (summed u (writes now u (take row_limit bs))).events ≡ flat_map (λ s. (settles s).events) (asked_settlings (Asked.row now bs) u)
unfolding summed
row-found now bs u = found now (take row_limit bs) u
