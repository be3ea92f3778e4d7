-- A row keeps a state within the limits, and ends where a write would be refused. Assumes nothing.
use Rattle.std.specs.Prelude.{◌≡◌, ℕ, Bool, length, take, Err}
use Rattle.std.proofs.Math.Path.{refl}
use Rattle.std.proofs.Common.{ap, ◌∙◌}
use Rattle.std.proofs.Math.Bool.{true, false}
use Rattle.std.proofs.Math.Option.{Option, none, some}
use mathlib.Core.List.{List, [], ◌∷◌}
use Rattle.std.proofs.Math.Dec.{eqb}
use Rattle.model.specs.State.{Uart}
use Rattle.model.specs.Replies.{number, write_number}
use Rattle.model.specs.Tests.{past_end, went_back, transmit_full, refuse_if, refuse_date}
use Rattle.model.specs.Calls.{Outcome, refusing, unless, carried, outcome, send}
use Rattle.model.specs.Row.{fifo_write, writes, left_by, summed, first_test, row, row_limit}
use Rattle.model.specs.Limits.{Within}
use Rattle.model.proofs.Laws.Choose.{choose-false, choose-ind}
use Rattle.model.proofs.Keeps.EachCall.{send-within}
use Rattle.model.specs.declared.Refusal.{Refusal}
use Rattle.model.specs.declared.Refusal.TheVariants.{DatePastEnd, DateWentBack, TransmitFull}
use Rattle.model.specs.Names.{Write}

module _ {H W : Type 0} (now : ℕ) where
  writes-within : (bs : List W) (u : Uart H W) → Within u → Within (left_by u (writes now u bs))
  unfolding writes left_by
  writes-within [] u w = w
  writes-within (b ∷ bs) u w =
      choose-ind (λ os. Within (left_by u os)) _ (λ _. writes-within bs (fifo_write now u b).state (send-within now b u w)) (λ _. w)

  pub row_within : (bs : List W) (u : Uart H W) → Within u → Within (row now bs u).state
  unfolding row unless refusing summed
  row_within bs u w = by-test (refuse_date now u.control (first_test now bs u))
    where
      by-test : (o : Option Refusal)
          → Within (unless o Err (λ s. summed s (writes now s (take row_limit bs))) u).state
      by-test none = writes-within (take row_limit bs) u w
      by-test (some r) = w

  refused-some : (a b : Bool) (work : Uart H W → Outcome Write H W) (u : Uart H W)
      → eqb (write_number (unless (refuse_if a DatePastEnd (refuse_if b DateWentBack (some TransmitFull))) Err work u
      ).reply) 0 ≡ false
  unfolding unless refusing refuse_if write_number number
  refused-some true b work u = refl
  refused-some false true work u = refl
  refused-some false false work u = refl

  -- nothing is written where the transmit side is full
  pub full-writes : (bs : List W) (u : Uart H W) → transmit_full (length u.tx) (length u.in_flight) ≡ true → writes now u bs ≡ []
  unfolding writes outcome send refuse_date refuse_if
  full-writes [] u f = refl
  full-writes (b ∷ bs) u f =
      choose-false _ _
      (ap (λ (t : Bool). eqb (write_number (unless (refuse_date now u.control (refuse_if t TransmitFull none)) Err
      (carried (some now) (send now b u)) u).reply) 0) f
      ∙ refused-some (past_end now) (went_back u.control.last now) (carried (some now) (send now b u)) u)
