-- A row and a whole list look into no byte: they commute with a change of bytes. Assumes nothing.
use Rattle.std.specs.Prelude.{◌≡◌, eqb, take, Err}
use Rattle.std.proofs.Math.Path.{refl, sym, ap, ap₂}
use Rattle.std.proofs.Common.{◌∙◌}
use Prim.Native.Nat.{ℕ, ◌+◌}
use Rattle.std.proofs.Math.Option.{Option, some}
use mathlib.Core.List.{List, [], ◌∷◌, ◌++◌, map, flat_map, map-append}
use Rattle.std.proofs.Math.ListN.{length-map}
use Rattle.model.specs.Numbers.{choose}
use Rattle.model.specs.State.{Uart}
use Rattle.model.specs.Events.{total}
use Rattle.model.specs.Replies.{report, write_number}
use Rattle.model.specs.Tests.{refuse_date}
use Rattle.model.specs.Calls.{Outcome, unless}
use Rattle.model.specs.Row.{row_limit, notes_of, fifo_write, writes, left_by, summed, first_test, row}
use Rattle.model.specs.Call.{Asked, rows}
use Rattle.model.specs.Run.{answering, asked_by, run_by}
use Rattle.model.proofs.Laws.Choose.{choose-nat}
use Rattle.model.proofs.Laws.Lists.{map-take, flat_map-map}
use Rattle.theorems.specs.TwoRuns.Renamed.{map_uart, itself, map_reply, map_answer}
use Rattle.theorems.specs.TwoRuns.Natural.{map_event}
use Rattle.model.proofs.Laws.Placed.{Put, Placed, putting, changed_asked, step_placed, run_placed}
use Rattle.theorems.specs.TwoRuns.NaturalCalls.{map_put, map_placed, map_step, map_outcome, unless-nat, outcome-nat, putting-nat}
use Rattle.theorems.specs.TwoRuns.NaturalCalls.{step_placed-nat}
use Rattle.model.specs.declared.Refusal.{Refusal}
use Rattle.model.specs.Names.{Write}

-- a list's element changed
abbrev pub map_asked : {H H' W W' L L' : Type 0} → (H → H') → (W → W') → (L → L') → Asked (Placed H W L) W → Asked (Placed H' W' L') W'
map_asked f g h a = changed_asked (map_placed f g h) (map g) a

module _ {H H' W W' : Type 0} (f : H → H') (g : W → W') where
  -- ---- a row

  abbrev map_write : Outcome Write H W → Outcome Write H' W'
  map_write o = map_outcome itself f g o

  fifo_write-nat : (now : ℕ) (b : W) (u : Uart H W) → fifo_write now (map_uart f g u) (g b) ≡ map_write (fifo_write now u b)
  unfolding putting map_put
  fifo_write-nat now b u = outcome-nat itself f g (putting-nat f g now (Put.byte b) u) u (some now)

  writes-nat : (now : ℕ) (bs : List W) (u : Uart H W) → writes now (map_uart f g u) (map g bs) ≡ map map_write (writes now u bs)
  unfolding writes map_outcome
  writes-nat now [] u = refl
  writes-nat now (b ∷ bs) u =
      let one : Outcome Write H W = fifo_write now u b in
      ap (λ (o : Outcome Write H' W'). choose (eqb (write_number o.reply) 0) (o ∷ writes now o.state (map g bs)) [])
      (fifo_write-nat now b u)
      ∙ choose-nat (map map_write) _ (ap (λ (os : List (Outcome Write H' W')). map_write one ∷ os) (writes-nat now bs one.state)) refl

  left_by-nat : (u : Uart H W) (os : List (Outcome Write H W)) → left_by (map_uart f g u) (map map_write os) ≡ map_uart f g (left_by u os)
  unfolding left_by map_outcome
  left_by-nat u [] = refl
  left_by-nat u (o ∷ os) = left_by-nat o.state os

  total-nat : (n : Outcome Write H W → ℕ) (n' : Outcome Write H' W' → ℕ) → ((o : Outcome Write H W) → n' (map_write o) ≡ n o)
      → (os : List (Outcome Write H W)) → total n' (map map_write os) ≡ total n os
  unfolding total
  total-nat n n' e [] = refl
  total-nat n n' e (o ∷ os) = ap₂ ◌+◌ (e o) (total-nat n n' e os)

  events-nat : (os : List (Outcome Write H W))
      → flat_map (λ o. o.events) (map map_write os) ≡ map (map_event f g) (flat_map (λ o. o.events) os)
  unfolding flat_map map_outcome
  events-nat [] = refl
  events-nat (o ∷ os) =
      ap (λ l. map (map_event f g) o.events ++ l) (events-nat os)
      ∙ sym (map-append (map_event f g) o.events (flat_map (λ o. o.events) os))

  summed-nat : (u : Uart H W) (os : List (Outcome Write H W))
      → summed (map_uart f g u) (map map_write os) ≡ map_outcome itself f g (summed u os)
  unfolding summed map_outcome report
  summed-nat u os =
      rw (
        length-map os map_write,
        flat_map-map (λ (o : Outcome Write H' W'). notes_of o.report) map_write (λ o. notes_of o.report) (λ o. refl) os,
        total-nat (λ o. o.report.passes) (λ o. o.report.passes) (λ o. refl) os,
        total-nat (λ o. o.report.overflows) (λ o. o.report.overflows) (λ o. refl) os,
        left_by-nat u os,
        events-nat os,
      )

  first-nat : (now : ℕ) (bs : List W) (u : Uart H W) → first_test now (map g bs) (map_uart f g u) ≡ first_test now bs u
  unfolding first_test putting map_put
  first-nat now [] u = refl
  first-nat now (b ∷ bs) u = (putting-nat f g now (Put.byte b) u).test

  pub row-nat : (now : ℕ) (bs : List W) (u : Uart H W) → row now (map g bs) (map_uart f g u) ≡ map_outcome itself f g (row now bs u)
  unfolding row
  row-nat now bs u =
      ap (λ (t : Option Refusal). unless (refuse_date now u.control t) Err
      (λ s. summed s (writes now s (take row_limit (map g bs)))) (map_uart f g u)) (first-nat now bs u)
      ∙ unless-nat itself f g _ Err Err _ _ u (λ r. refl)
      (ap (λ l. summed (map_uart f g u) (writes now (map_uart f g u) l)) (sym (map-take g row_limit bs))
      ∙ ap (summed (map_uart f g u)) (writes-nat now (take row_limit bs) u)
      ∙ summed-nat u (writes now u (take row_limit bs)))

  -- ---- a list

  module _ {L L' : Type 0} (h : L → L') where
    pub asked-nat : (a : Asked (Placed H W L) W) (u : Uart H W)
        → asked_by step_placed (map_asked f g h a) (map_uart f g u) ≡ map_step f g h (asked_by step_placed a u)
    unfolding asked_by changed_asked answering map_step map_answer map_reply map_outcome
    asked-nat (Asked.call c) u = step_placed-nat f g h c u
    asked-nat (Asked.row now bs) u = ap (answering rows) (row-nat now bs u)

    pub run_placed-nat : (cs : List (Asked (Placed H W L) W)) (u : Uart H W)
        → run_placed (map (map_asked f g h) cs) (map_uart f g u) ≡ map (map_answer f g h) (run_placed cs u)
    unfolding run_by map_step
    run_placed-nat [] u = refl
    run_placed-nat (a ∷ cs) u =
        ap (λ s. s.answer ∷ run_placed (map (map_asked f g h) cs) s.state) (asked-nat a u)
        ∙ ap (λ r. map_answer f g h (asked_by step_placed a u).answer ∷ r) (run_placed-nat cs (asked_by step_placed a u).state)
