-- Each call of the definition is refused as the functions of `refusals` say: the chains of Refusals.antt are the definition's.
-- Assumes nothing.
use Rattle.std.specs.Prelude.{◌≡◌, ℕ, Bool, List, length, Err}
use Rattle.std.proofs.Math.Path.{refl}
use Rattle.std.proofs.Math.Option.{none, some}
use Rattle.model.specs.State.{Uart}
use Rattle.model.specs.Map.{Register}
use Rattle.model.specs.Replies.{refused}
use Rattle.model.specs.Tests.{refuse_date}
use Rattle.model.specs.Calls.{unless, carried, outcome, last_date, host_date, not_taken, read_placed, write_placed, send, receive, machine}
use Rattle.model.specs.Calls.{take_tx, take_written}
use Rattle.model.specs.Call.{Machine}
use Rattle.replies.specs.Refusals.{dates, dates_only, sending, receiving, clocking, taking_tx, taking_written}

module _ {H W : Type 0} (now : ℕ) (u : Uart H W) where
  pub read-tests : (r : Register) → outcome (some now) (read_placed now r u) u
      ≡ unless (dates_only now u.control.last) refused (carried (some now) (read_placed now r u)) u
  unfolding outcome read_placed refuse_date dates_only dates
  read-tests r = refl

  pub write-tests : (r : Register) (v : ℕ) → outcome (some now) (write_placed now r v u) u
      ≡ unless (dates_only now u.control.last) Err (carried (some now) (write_placed now r v u)) u
  unfolding outcome write_placed refuse_date dates_only dates
  write-tests r v = refl

  pub send-tests : (b : W) → outcome (some now) (send now b u) u
      ≡ unless (sending now u.control.last (length u.tx) (length u.in_flight)) Err
      (carried (some now) (send now b u)) u
  unfolding outcome send refuse_date sending dates
  send-tests b = refl

  pub receive-tests : (at : ℕ) (bs : List H)
      → outcome (some now) (receive now at bs u) u
      ≡ unless
      (receiving now u.control.last (record {
        bytes = length u.host;
        runs = length u.host_runs;
        last_date = last_date u.host_runs;
      }) (length bs) (host_date now at))
      Err (carried (some now) (receive now at bs u)) u
  unfolding outcome receive refuse_date receiving dates
  receive-tests at bs = refl

  pub wake-tests : outcome (some now) (machine now Machine.wake u) u
      ≡ unless (dates_only now u.control.last) Err (carried (some now) (machine now Machine.wake u)) u
  unfolding outcome machine refuse_date dates_only dates
  wake-tests = refl

  pub watch-tests : (b : Bool) → outcome (some now) (machine now (Machine.watch b) u) u
      ≡ unless (dates_only now u.control.last) Err (carried (some now) (machine now (Machine.watch b) u)) u
  unfolding outcome machine refuse_date dates_only dates
  watch-tests b = refl

  pub power-down-tests : outcome (some now) (machine now Machine.power_down u) u
      ≡ unless (dates_only now u.control.last) Err (carried (some now) (machine now Machine.power_down u)) u
  unfolding outcome machine refuse_date dates_only dates
  power-down-tests = refl

  pub clock-tests : (period : ℕ) → outcome (some now) (machine now (Machine.clock_change period) u) u
      ≡ unless (clocking now u.control.last period) Err (carried (some now) (machine now (Machine.clock_change period) u)) u
  unfolding outcome machine refuse_date clocking dates
  clock-tests period = refl

  pub reset-tests : outcome (some now) (machine now Machine.reset u) u
      ≡ unless (dates_only now u.control.last) Err (carried (some now) (machine now Machine.reset u)) u
  unfolding outcome machine refuse_date dates_only dates
  reset-tests = refl

  pub take-tests : {L : Type 0} (lent : List L) → outcome (some now) (take_tx now lent u) u
      ≡ unless (taking_tx now u.control.last (length lent)) (not_taken lent) (carried (some now) (take_tx now lent u)) u
  unfolding outcome take_tx refuse_date taking_tx taking_written dates
  take-tests lent = refl

pub written-tests : {H W L : Type 0} (lent : List L) (u : Uart H W)
    → outcome none (take_written lent u) u ≡ unless (taking_written (length lent)) (not_taken lent) (carried none (take_written lent u)) u
unfolding outcome take_written taking_written
written-tests lent u = refl
