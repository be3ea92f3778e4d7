-- Corners of document 01 that the other laws do not say of `step`: what a reset drops and what it keeps, which calls arm nothing, what
-- CONF0 with TXFIFO_RST leaves in flight, and a due timeout beside a byte on the line. Assumes nothing.
use Rattle.model.specs.declared.Source.{Source}
use Rattle.std.specs.Prelude.{◌≡◌, Bool, true, false, ◌&&◌, ◌||◌, List, [], take, None}
use Rattle.std.proofs.Math.Path.{ap, ap₂}
use Rattle.std.proofs.Common.{◌∙◌, arith, le-ltb}
use Prim.Native.Nat.{ℕ, ◌%◌, ◌^◌}
use Rattle.std.proofs.Math.Nat.{zero-div}
use Rattle.std.proofs.Math.Bool.{and-false, decide}
use Rattle.std.proofs.Math.Option.{some}
use Rattle.std.proofs.Math.Dec.{ltb, eqb}
use Rattle.model.specs.Manual
use Rattle.model.specs.Numbers.{choose, field, bit, due_by}
use Rattle.model.specs.State.{OnTheLine, Uart, line_of}
use Rattle.model.specs.Setters.{with_powered_down_at, with_control}
use Rattle.model.specs.Line.{raise_if, timeout_at}
use Rattle.model.specs.Settle.{timed_out, in_frame, pass_on, pass, above_full, in_fifo, empty_threshold, below_empty, assert_levels}
use Rattle.model.specs.Settle.{drive, levels, settle}
use Rattle.model.specs.Arm.{instants, arm_all, arm}
use Rattle.model.specs.Map.{Word, Register, register_of}
use Rattle.model.specs.Registers.{reset_fifos, storing, write_register, concluded}
use Rattle.model.specs.Calls
use Rattle.model.specs.Calls.{after_settling, quiet, dated, hand_over, cleared, cleared_line, write_placed, carried}
use Rattle.model.specs.Call.{Machine, Dated, Call, date_of, Written}
use Rattle.model.specs.Run.{Step, number_of, stepped, replying, plan_by, plan, step}
use Rattle.model.specs.Run.{answering}
use Rattle.model.proofs.Laws.Choose.{choose-true}
use Rattle.model.proofs.Keeps.Kept.{settle-keeps}
use Rattle.model.proofs.Refuses.Exactly.{call-carried}
use Rattle.model.proofs.MeetsManual.Answers.{InTime, settled}
use Rattle.model.proofs.MeetsManual.Rises.{raw_bit, levels-raise}
use Rattle.model.proofs.ShutsOut.Notices.{conf0-answer}
use Rattle.model.specs.declared.Settings.{Settings}

-- ---- reset

no-bit : (n : ℕ) → bit n 0 ≡ false
no-bit n = ap (λ (x : ℕ). eqb (x % 2) 1) (zero-div (2 ^ n))

never-above : (n threshold : ℕ) → (eqb n 0 && ltb threshold 0) ≡ false
never-above n threshold = ap (λ (b : Bool). eqb n 0 && b) (le-ltb threshold 0 (omega arith)) ∙ and-false (eqb n 0)

module _ (now : ℕ) (u : Uart ℕ ℕ) (done : number_of (step (Call.at now (Dated.machine Machine.reset)) u).answer.reply ≡ 0) where
  -- the state that it works on: power-down ended, and settled
  abbrev found : Uart ℕ ℕ
  found = (settle now (dated now (with_control (with_powered_down_at None u.control) u))).state

  reset-is : (step (Call.at now (Dated.machine Machine.reset)) u).state ≡ arm (levels (cleared found))
  unfolding stepped carried after_settling dated date_of plan Calls.machine plan_by replying quiet
  reset-is = ap (λ (s : Step ℕ ℕ ℕ). s.state) (call-carried (Call.at now (Dated.machine Machine.reset)) u done)

  found_map : found.map ≡ u.map
  unfolding dated
  found_map = (settle-keeps now _).map

  -- bytes in flight and received go, the idle line closes, a mistimed reception is forgotten, the words are those of reset, and
  -- power-down has ended
  pub reset-drops : let v : Uart ℕ ℕ = (step (Call.at now (Dated.machine Machine.reset)) u).state in
      (v.in_flight ≡ []) × (v.rx ≡ []) × ((line_of v).idle_since ≡ None) × ((line_of v).rx_mistimed ≡ Source.None)
      × (v.control.words ≡ u.map.reset) × (v.control.powered_down_at ≡ None)
  unfolding arm levels drive assert_levels raise_if cleared cleared_line dated
  reset-drops = (
    ap (λ v. v.in_flight) reset-is,
    ap (λ v. v.rx) reset-is,
    ap (λ v. (line_of v).idle_since) reset-is,
    ap (λ v. (line_of v).rx_mistimed) reset-is,
    ap (λ v. v.control.words) reset-is ∙ ap (λ m. m.reset) found_map,
    ap (λ v. v.control.powered_down_at) reset-is ∙ (settle-keeps now _).powered_down_at,
  )

  -- host bytes, the byte on the line, when the line is free, bytes that left and the watch mark stay
  pub reset-keeps : let v : Uart ℕ ℕ = (step (Call.at now (Dated.machine Machine.reset)) u).state in
      let w : Uart ℕ ℕ = (settle now (dated now (with_control (with_powered_down_at None u.control) u))).state in
      (v.host ≡ w.host) × (v.host_runs ≡ w.host_runs) × (v.receiving ≡ w.receiving)
      × ((line_of v).line_free_at ≡ (line_of w).line_free_at) × (v.tx ≡ w.tx) × (v.control.watched ≡ w.control.watched)
  unfolding arm levels drive assert_levels raise_if cleared cleared_line dated
  reset-keeps = (
    ap (λ v. v.host) reset-is,
    ap (λ v. v.host_runs) reset-is,
    ap (λ v. v.receiving) reset-is,
    ap (λ v. (line_of v).line_free_at) reset-is,
    ap (λ v. v.tx) reset-is,
    ap (λ v. v.control.watched) reset-is,
  )

  -- the wake that was armed stays, and the instants that ask for one are armed
  pub reset-wake : let w : Uart ℕ ℕ = (settle now (dated now (with_control (with_powered_down_at None u.control) u))).state in
      (step (Call.at now (Dated.machine Machine.reset)) u).state.control.wake ≡ arm_all (instants (levels (cleared w))) u.control.wake
  unfolding arm levels drive assert_levels cleared dated
  reset-wake =
      ap (λ v. v.control.wake) reset-is ∙ ap (arm_all (instants (levels (cleared found)))) (settle-keeps now _).wake

  -- INT_RAW is cleared, and then has only what the level rules raise: of empty FIFOs TXFIFO_EMPTY, by the threshold that reset gives
  pub reset-raw : (n : ℕ) → raw_bit n (step (Call.at now (Dated.machine Machine.reset)) u).state
      ≡ (eqb n 1 && Manual.TXFIFO-EMPTY u.map.reset.conf1 0)
  unfolding arm cleared cleared_line above_full below_empty in_fifo empty_threshold Manual.TXFIFO-EMPTY
  reset-raw n =
      ap (raw_bit n) reset-is ∙ levels-raise n (cleared found)
      ∙ ap₂ (λ a b. a || b || (eqb n 1 && ltb 0 (field 9 9 found.map.reset.conf1))) (no-bit n)
      (never-above n (field 0 9 found.map.reset.conf1))
      ∙ ap (λ m. eqb n 1 && ltb 0 (field 9 9 m.reset.conf1)) found_map

-- ---- calls that arm nothing

-- an empty hand-over settles, and the wake stays
pub empty-receive-arms-nothing : (now date : ℕ) (u : Uart ℕ ℕ) → number_of (step (Call.at now (Dated.receive date [])) u).answer.reply ≡ 0
    → (step (Call.at now (Dated.receive date [])) u).state ≡ settled now u
unfolding stepped carried after_settling date_of plan plan_by replying quiet hand_over Calls.receive
empty-receive-arms-nothing now date u done = ap (λ (s : Step ℕ ℕ ℕ). s.state) (call-carried (Call.at now (Dated.receive date [])) u done)

-- so does taking what left
pub take-arms-nothing : (now : ℕ) (lent : List ℕ) (u : Uart ℕ ℕ) → number_of (step (Call.at now (Dated.take_tx lent)) u).answer.reply ≡ 0
    → (step (Call.at now (Dated.take_tx lent)) u).state.control ≡ (settled now u).control
unfolding stepped carried after_settling date_of plan plan_by replying quiet Calls.take_tx
take-arms-nothing now lent u done = ap (λ (s : Step ℕ ℕ ℕ). s.state.control) (call-carried (Call.at now (Dated.take_tx lent)) u done)

-- ---- CONF0 with TXFIFO_RST

-- one byte stays in flight, the one in the shift register
pub txfifo-rst-keeps-one : (now : ℕ) (u : Uart ℕ ℕ) (x : Written) (t : InTime now u)
    → register_of u.map.offsets x.offset ≡ Register.stored Word.conf0 → bit 18 x.value ≡ true
    → (step (Call.at now (Dated.write x)) u).state.in_flight ≡ take 1 (settled now u).in_flight
unfolding answering carried write_placed after_settling concluded write_register storing reset_fifos arm levels choose decide
txfifo-rst-keeps-one now u x t e rst =
    ap (λ (s : Step ℕ ℕ ℕ). s.state.in_flight) (conf0-answer now u x t e)
    ∙ ap (λ (b : Bool). choose b (take 1 (settled now u).in_flight) (settled now u).in_flight) rst

-- ---- a byte on the line

-- a timeout that is due is taken before the landing, whatever their dates
pub due-timeout-first : {H W : Type 0} (s : Settings) (date : ℕ) (u : Uart H W) (l : OnTheLine H) → u.receiving ≡ some l
    → due_by date (timeout_at s (line_of u)) ≡ true → pass s date u ≡ timed_out s u
unfolding pass pass_on in_frame
due-timeout-first s date u l e due = ap (λ o. pass_on s date o u) e ∙ choose-true _ _ due
