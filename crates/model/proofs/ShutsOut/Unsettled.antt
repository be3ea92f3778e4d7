-- Calls that do not settle, each whole: what take_written, has_left, host_pending, watch and power_down answer and leave; and what a
-- report holds. Assumes nothing.
use Rattle.std.specs.Prelude.{◌≡◌, ℕ, ◌≤◌, Bool, List, [], ◌++◌, map, ltb, length, drop, Some, Ok}
use Rattle.std.proofs.Math.Path.{refl, ap}
use Rattle.std.proofs.Common.{sym, ◌∙◌, subst, le-ltb}
use Rattle.std.proofs.Math.Option.{Option, none, some}
use Rattle.dates.specs.Dates.{subcycles}
use Rattle.model.specs.State.{Uart}
use Rattle.model.specs.Setters.{with_watched, with_powered_down_at, with_control, with_in_flight, with_tx}
use Rattle.model.specs.Events.{total, passes_in, overflows_in}
use Rattle.model.specs.Settle.{pending}
use Rattle.model.specs.Arm.{arm}
use Rattle.model.specs.Replies.{no_report, report}
use Rattle.model.specs.Tests.{refuse_if}
use Rattle.model.specs.Calls
use Rattle.model.specs.Calls.{Outcome, refusing, unless, after_settling, carried, outcome, dated, quiet, filled, written}
use Rattle.model.specs.Call.{Machine, Dated, Undated, Call, date_of, Request, Reply, does, takes, left, pends}
use Rattle.model.specs.Run.{Step, number_of, stepped, replying, plan_by, plan, step}
use Rattle.model.proofs.Laws.AccessCases.{unless-ind}
use Rattle.model.proofs.Refuses.Exactly.{call-carried}
use Rattle.model.specs.declared.Refusal.TheVariants.{BufferTooShort}

-- ---- reports

-- an undated call answers its number and its own result alone, refused or done
pub undated-report : (c : Request) (u : Uart ℕ ℕ) → date_of c ≡ none → (step c u).answer.report ≡ no_report
unfolding step stepped outcome carried refusing
undated-report c u e =
    ap (λ (d : Option ℕ). (stepped (outcome d (plan c u) u)).answer.report) e
    ∙ unless-ind (λ (o : Outcome (Reply ℕ ℕ ℕ) ℕ ℕ). o.report ≡ no_report) (plan c u).test (plan c u).refuses (carried none (plan c u)) u
    (λ r. refl) refl

-- the report of a dated call that is done: level and wake as the call leaves them, passes and overflows as its settlings found them
pub dated-report : (c : Request) (now : ℕ) (u : Uart ℕ ℕ) → date_of c ≡ some now → number_of (step c u).answer.reply ≡ 0
    → let s : Step ℕ ℕ ℕ = step c u in
    (s.answer.report.level ≡ s.state.control.level) × (s.answer.report.wake ≡ s.state.control.wake)
    × (s.answer.report.passes ≡ passes_in s.events) × (s.answer.report.overflows ≡ overflows_in s.events)
unfolding stepped carried after_settling report
dated-report c now u e done =
    subst (λ (s : Step ℕ ℕ ℕ). (s.answer.report.level ≡ s.state.control.level) × (s.answer.report.wake ≡ s.state.control.wake)
    × (s.answer.report.passes ≡ passes_in s.events) × (s.answer.report.overflows ≡ overflows_in s.events))
    (sym (call-carried c u done ∙ ap (λ (d : Option ℕ). stepped (carried d (plan c u) u)) e)) (refl, refl, refl, refl)

-- ---- undated calls

module _ (u : Uart ℕ ℕ) where
  -- an answer without a report, and a state
  abbrev pub alone : Reply ℕ ℕ ℕ → Uart ℕ ℕ → Step ℕ ℕ ℕ
  alone r v = record { answer = record { reply = r; report = no_report }; state = v; events = [] }

  -- a byte has left where the last settling let one leave: those in flight do not count
  pub has_left-whole : step (Call.undated Undated.has_left) u ≡ alone (left (ltb 0 (length u.tx))) u
  unfolding step stepped outcome unless carried date_of plan plan_by replying quiet Calls.has_left
  has_left-whole = refl

  pub host-pending : step (Call.undated Undated.host_pending) u ≡ alone (pends (pending u)) u
  unfolding step stepped outcome unless carried date_of plan plan_by replying quiet Calls.host_pending
  host-pending = refl

  -- the bytes that left and then those in flight, at the buffer's front, and nothing written after them. No bit of INT_RAW rises, and
  -- nothing is armed
  pub take-written : (lent : List ℕ) → 1152 ≤ length lent → let out : List ℕ = u.tx ++ map (λ s. s.byte) u.in_flight in
      step (Call.undated (Undated.take_written lent)) u
      ≡ alone (takes (record { taken = Ok (length out); front = out; rest = drop (length out) lent }))
      (with_tx [] (with_in_flight [] u))
  unfolding step stepped outcome unless carried date_of plan plan_by replying quiet Calls.take_written filled written refuse_if
  take-written lent long =
      ap (λ (b : Bool). stepped (unless (refuse_if b BufferTooShort none) (replying takes (Calls.take_written lent u)).refuses
      (carried none (replying takes (Calls.take_written lent u))) u)) (le-ltb (length lent) 1152 long)

-- ---- dated ones

module _ (now : ℕ) (u : Uart ℕ ℕ) where
  -- done, with no pass, overflow or notice; level and wake are those of the state
  abbrev pub unsettled : Uart ℕ ℕ → Step ℕ ℕ ℕ
  unsettled v = record { answer = record { reply = does (Ok tt); report = report 0 0 [] v }; state = v; events = [] }

  -- watching moves the last date, sets the mark and arms
  pub watch-arms : (b : Bool) → number_of (step (Call.at now (Dated.machine (Machine.watch b))) u).answer.reply ≡ 0
      → step (Call.at now (Dated.machine (Machine.watch b))) u
      ≡ unsettled (arm (with_control (with_watched b (dated now u).control) (dated now u)))
  unfolding stepped carried after_settling date_of plan plan_by replying quiet Calls.machine passes_in overflows_in total
  watch-arms b done = call-carried (Call.at now (Dated.machine (Machine.watch b))) u done

  -- power-down moves the last date and sets its own to now
  pub power-down-alone : number_of (step (Call.at now (Dated.machine Machine.power_down)) u).answer.reply ≡ 0
      → step (Call.at now (Dated.machine Machine.power_down)) u
      ≡ unsettled (with_control (with_powered_down_at (Some (subcycles now)) (dated now u).control) (dated now u))
  unfolding stepped carried after_settling date_of plan plan_by replying quiet Calls.machine passes_in overflows_in total
  power-down-alone done = call-carried (Call.at now (Dated.machine Machine.power_down)) u done
