-- Clocks: what a clock change does, which source times a frame and which gives a notice, and that the
-- fraction of the source divider does not count. Assumes nothing.
use Rattle.std.specs.Prelude.{◌≡◌, List, [], ◌∷◌, eqb}
use Rattle.std.proofs.Math.Path.{ap}
use Rattle.std.proofs.Common.{◌∙◌, arith, eq-eqb, ne_eqb}
use Prim.Native.Nat.{ℕ, ◌+◌, ◌*◌, ◌/◌, ◌%◌, ◌^◌, max}
use Rattle.std.proofs.Math.Option.{some}
use Rattle.model.specs.Numbers.{choose, field}
use Rattle.model.specs.State.{Uart}
use Rattle.model.specs.Setters.{with_period, with_control}
use Rattle.model.specs.Timing.{source_period, unmodelled, unmodelled_source, half_bit_time, divider}
use Rattle.model.specs.Events.{passes_in, overflows_in}
use Rattle.model.specs.Settle.{Settled, settle}
use Rattle.model.specs.Arm.{arm}
use Rattle.model.specs.Replies.{report}
use Rattle.model.specs.Registers.{source_notes}
use Rattle.model.specs.Calls
use Rattle.model.specs.Calls.{after_settling, carried, dated, quiet, clocked}
use Rattle.model.specs.Call.{Machine, Dated, Call, date_of}
use Rattle.model.specs.Run.{Step, number_of, stepped, replying, plan_by, plan, step}
use Rattle.model.proofs.Laws.Choose.{choose-true, choose-false}
use Rattle.model.proofs.Laws.Events.{passes_append, overflows-append}
use Rattle.model.proofs.Keeps.Kept.{settle-keeps}
use Rattle.model.proofs.Refuses.Exactly.{call-carried}
use Rattle.model.specs.declared.Words.{Words}
use Rattle.model.specs.declared.Unsupported.{Unsupported}
use Rattle.model.specs.declared.Unsupported.TheVariants.{UartClock}

-- ---- a clock change

module _ (now period : ℕ) (u : Uart ℕ ℕ)
    (done : number_of (step (Call.at now (Dated.machine (Machine.clock_change period))) u).answer.reply ≡ 0) where
  change-is : step (Call.at now (Dated.machine (Machine.clock_change period))) u
      ≡ stepped (carried (some now) (plan (Call.at now (Dated.machine (Machine.clock_change period))) u) u)
  unfolding date_of
  change-is = call-carried (Call.at now (Dated.machine (Machine.clock_change period))) u done

  -- settled with the old period; then, with the new one, of which 0 counts as 1, settled again; and armed
  pub clock-change-leaves : let v : Uart ℕ ℕ = (settle now (dated now u)).state in
      (step (Call.at now (Dated.machine (Machine.clock_change period))) u).state
      ≡ arm (settle now (with_control (with_period (max period 1) v.control) v)).state
  unfolding stepped carried after_settling date_of plan plan_by replying quiet Calls.machine clocked
  clock-change-leaves = ap (λ (s : Step ℕ ℕ ℕ). s.state) change-is

  -- what both settlings find is counted: passes and overflows are the sums
  pub clock-change-counts : let t : Settled ℕ ℕ = settle now (dated now u) in
      let r : Settled ℕ ℕ = settle now (with_control (with_period (max period 1) t.state.control) t.state) in
      let s : Step ℕ ℕ ℕ = step (Call.at now (Dated.machine (Machine.clock_change period))) u in
      (s.answer.report.passes ≡ passes_in t.events + passes_in r.events)
      × (s.answer.report.overflows ≡ overflows_in t.events + overflows_in r.events)
  unfolding stepped carried after_settling date_of plan plan_by replying quiet Calls.machine clocked report
  clock-change-counts =
      let t : Settled ℕ ℕ = settle now (dated now u) in
      let r : Settled ℕ ℕ = settle now (with_control (with_period (max period 1) t.state.control) t.state) in (
        ap (λ (s : Step ℕ ℕ ℕ). s.answer.report.passes) change-is ∙ passes_append t.events r.events,
        ap (λ (s : Step ℕ ℕ ℕ). s.answer.report.overflows) change-is ∙ overflows-append t.events r.events,
      )

  pub clock-change-period : (step (Call.at now (Dated.machine (Machine.clock_change period))) u).state.control.period ≡ max period 1
  unfolding arm
  clock-change-period = ap (λ (v : Uart ℕ ℕ). v.control.period) clock-change-leaves ∙ (settle-keeps now _).period

-- ---- the source, CLK_CONF bits 20-21

-- 1 is APB; every other uses the crystal
pub source-apb : (clk_conf period : ℕ) → field 20 2 clk_conf ≡ 1 → source_period clk_conf period ≡ period
unfolding source_period
source-apb clk_conf period e = choose-true _ _ (eq-eqb _ 1 e)

pub source-crystal : (clk_conf period : ℕ) → ¬ (field 20 2 clk_conf ≡ 1) → source_period clk_conf period ≡ 4
unfolding source_period
source-crystal clk_conf period n = choose-false _ _ (ne_eqb _ 1 n)

-- 0 and 2 give a notice with their number, 1 and 3 none
pub source-notes : (clk_conf : ℕ) → let noted : List Unsupported = source_notes UartClock (unmodelled_source clk_conf) in
    (field 20 2 clk_conf ≡ 0 → noted ≡ UartClock 0 ∷ []) × (field 20 2 clk_conf ≡ 1 → noted ≡ [])
    × (field 20 2 clk_conf ≡ 2 → noted ≡ UartClock 2 ∷ []) × (field 20 2 clk_conf ≡ 3 → noted ≡ [])
unfolding unmodelled_source unmodelled source_notes
source-notes clk_conf = (by_code, by_code, by_code, by_code)
  where
    by_code : {k : ℕ} → field 20 2 clk_conf ≡ k
        → source_notes UartClock (unmodelled (field 20 2 clk_conf)) ≡ source_notes UartClock (unmodelled k)
    by_code e = ap (λ (k : ℕ). source_notes UartClock (unmodelled k)) e

-- CLK_CONF bits 0-11, the fraction of the source divider, do not count
pub fraction-unused : (w x : Words) (period : ℕ) → w.clkdiv ≡ x.clkdiv → w.clk_conf / 2 ^ 12 ≡ x.clk_conf / 2 ^ 12
    → half_bit_time w period ≡ half_bit_time x period
unfolding half_bit_time source_period
fraction-unused w x period d c =
    let select : field 20 2 w.clk_conf ≡ field 20 2 x.clk_conf = omega (arith, c) in
    λ i. divider (d i) * (c i % 2 ^ 8 + 1) * choose (eqb (select i) 1) period 4
