-- The interrupt's level: after every call that settles it is whether INT_ST is other than 0, and a call that does not settle leaves it as
-- it was last driven. Assumes nothing.
use Rattle.std.specs.Prelude.{◌≡◌, ℕ, Bool, not, eqb}
use Rattle.std.proofs.Math.Path.{refl, subst}
use Rattle.std.proofs.Common.{sym, ap, ◌∙◌}
use Rattle.std.proofs.Math.Bool.{true, false}
use Rattle.std.proofs.Math.Option.{some}
use mathlib.Core.List.{List, [], ◌∷◌}
use Rattle.model.specs.State.{Uart, line_of}
use Rattle.model.specs.Setters.{with_tx}
use Rattle.model.specs.Settle.{int_status, drive, levels, leveled, settle_to, settle}
use Rattle.model.specs.Arm.{arm}
use Rattle.model.specs.Map.{Register, register_of}
use Rattle.model.specs.Registers.{looks, pop, read_register, read_looking, read_at, concluded}
use Rattle.model.specs.Calls
use Rattle.model.specs.Calls.{after_settling, carried, dated, host_date, quiet, hand_over, read_placed, send, write_placed}
use Rattle.model.specs.Call.{Machine, Dated, Undated, Call, date_of, Request, writes}
use Rattle.model.specs.Run.{number_of, stepped, replying, plan_by, writing, plan, step}
use Rattle.model.specs.SetUp.{new_control, new}
use Rattle.model.proofs.Laws.AccessCases.{write-ind, read_register-ind}
use Rattle.model.proofs.Ends.Passes.{apart}
use Rattle.model.proofs.Refuses.Exactly.{call-carried}
use Rattle.model.proofs.Ends.Settlings.{Settling, settlings_by, settlings}
use Rattle.model.specs.declared.Unsupported.{Unsupported}

-- INT_ST is other than 0
unfoldable pub asserted : {H W : Type 0} → Uart H W → Bool
asserted u = not (eqb (int_status u.control) 0)

abbrev pub Driven : {H W : Type 0} → Uart H W → Type 0
Driven u = u.control.level ≡ asserted u

module _ {H W : Type 0} where
  levels-driven : (u : Uart H W) → Driven (levels u)
  unfolding asserted levels drive int_status
  levels-driven u = refl

  settled-driven : (now : ℕ) (u : Uart H W) → Driven (settle now u).state
  unfolding settle settle_to leveled
  settled-driven now u = levels-driven _

  arm-driven : (u : Uart H W) → Driven u → Driven (arm u)
  unfolding asserted arm int_status
  arm-driven u h = h

  hand-driven : (date : ℕ) (bs : List H) (u : Uart H W) → Driven u → Driven (hand_over date bs u)
  unfolding asserted hand_over arm int_status
  hand-driven date [] u h = h
  hand-driven date (b ∷ bs) u h = h

  taken-driven : (u : Uart H W) → Driven u → Driven (with_tx [] u)
  unfolding asserted int_status
  taken-driven u h = h

  -- ---- a read

  pop-driven : (ns : List Unsupported) (bs : List H) (u : Uart H W) → Driven u → Driven (pop ns bs u).state
  unfolding asserted pop
  pop-driven ns [] u h = h
  pop-driven ns (b ∷ bs) u h = h

  register-driven : (ns : List Unsupported) (r : Register) (u : Uart H W) → Driven u → Driven (read_register ns r u).state
  register-driven ns r u h = read_register-ind (λ a. Driven a.state) ns u (pop-driven ns u.rx u h) (λ _. h) r

  looking-driven : (b : Bool) (r : Register) (u : Uart H W) → Driven u → Driven (read_looking b r u).state
  unfolding asserted read_looking int_status
  looking-driven true r u h = register-driven _ r _ h
  looking-driven false r u h = register-driven [] r u h

-- ---- every call

machine-drives : (now : ℕ) (m : Machine) (u : Uart ℕ ℕ) (s : Settling) (ss : List Settling)
    → settlings_by now (Calls.machine now m u).changes (dated now u) ≡ s ∷ ss → Driven (carried (some now) (Calls.machine now m u) u).state
unfolding carried after_settling Calls.machine quiet
machine-drives now Machine.wake u s ss e = arm-driven _ (settled-driven now _)
machine-drives now Machine.reset u s ss e = arm-driven _ (levels-driven _)
machine-drives now Machine.power_down u s ss e = apart (cc)
machine-drives now (Machine.watch b) u s ss e = apart (cc)
machine-drives now (Machine.clock_change period) u s ss e = arm-driven _ (settled-driven now _)

-- one that settles. The settled state is written out: for the checker to find it costs ten times as much
carried-drives : (c : Request) (u : Uart ℕ ℕ) (s : Settling) (ss : List Settling) → settlings c u ≡ s ∷ ss
    → Driven (stepped (carried (date_of c) (plan c u) u)).state
unfolding stepped carried after_settling date_of plan plan_by replying writing quiet read_at concluded Calls.read read_placed Calls.write
    send write_placed Calls.receive Calls.take_tx
carried-drives (Call.at now (Dated.read offset)) u s ss e =
    let r : Register = register_of u.map.offsets offset in
    looking-driven (looks r) r (settle now (dated now u)).state (settled-driven now (dated now u))
carried-drives (Call.at now (Dated.write x)) u s ss e =
    write-ind (λ p. Driven (carried (some now) (replying {L = ℕ} writes p) u).state) now (register_of u.map.offsets x.offset)
    x.value u
    (λ _. arm-driven _ (levels-driven _)) (λ _. arm-driven _ (levels-driven _))
carried-drives (Call.at now (Dated.receive date bs)) u s ss e =
    hand-driven (host_date now date) bs (settle now (dated now u)).state (settled-driven now (dated now u))
carried-drives (Call.at now (Dated.take_tx lent)) u s ss e =
    taken-driven (settle now (dated now u)).state (settled-driven now (dated now u))
carried-drives (Call.at now (Dated.machine m)) u s ss e = machine-drives now m u s ss e
carried-drives (Call.undated a) u s ss e = apart (cc)

machine-leaves : (now : ℕ) (m : Machine) (u : Uart ℕ ℕ) → settlings_by now (Calls.machine now m u).changes (dated now u) ≡ []
    → (carried (some now) (Calls.machine now m u) u).state.control.level ≡ u.control.level
unfolding carried after_settling dated Calls.machine quiet arm
machine-leaves now Machine.wake u e = apart (cc)
machine-leaves now Machine.reset u e = apart (cc)
machine-leaves now Machine.power_down u e = refl
machine-leaves now (Machine.watch b) u e = refl
machine-leaves now (Machine.clock_change period) u e = apart (cc)

-- one that does not
carried-leaves : (c : Request) (u : Uart ℕ ℕ) → settlings c u ≡ []
    → (stepped (carried (date_of c) (plan c u) u)).state.control.level ≡ u.control.level
unfolding stepped carried after_settling dated date_of plan plan_by replying writing quiet Calls.read read_placed Calls.write send
    write_placed Calls.receive Calls.take_tx Calls.take_written Calls.has_left Calls.host_pending
carried-leaves (Call.at now (Dated.read offset)) u e = apart (cc)
carried-leaves (Call.at now (Dated.write x)) u e =
    write-ind (λ p. settlings_by now p.changes (dated now u) ≡ []
    → (carried (some now) (replying {L = ℕ} writes p) u).state.control.level ≡ u.control.level) now
    (register_of u.map.offsets x.offset) x.value u (λ _ h. apart (cc)) (λ _ h. apart (cc)) e
carried-leaves (Call.at now (Dated.receive date bs)) u e = apart (cc)
carried-leaves (Call.at now (Dated.take_tx lent)) u e = apart (cc)
carried-leaves (Call.at now (Dated.machine m)) u e = machine-leaves now m u e
carried-leaves (Call.undated (Undated.take_written lent)) u e = refl
carried-leaves (Call.undated Undated.has_left) u e = refl
carried-leaves (Call.undated Undated.host_pending) u e = refl

module _ (c : Request) (u : Uart ℕ ℕ) (done : number_of (step c u).answer.reply ≡ 0) where
  -- after a call that settles the level is whether INT_ST is other than 0
  pub call-drives : (s : Settling) (ss : List Settling) → settlings c u ≡ s ∷ ss
      → (step c u).state.control.level ≡ not (eqb (int_status (step c u).state.control) 0)
  unfolding asserted
  call-drives s ss e = subst (λ x. Driven x.state) (sym (call-carried c u done)) (carried-drives c u s ss e)

  -- one that does not settle leaves it
  pub call-leaves-level : settlings c u ≡ [] → (step c u).state.control.level ≡ u.control.level
  call-leaves-level e = ap (λ x. x.state.control.level) (call-carried c u done) ∙ carried-leaves c u e

-- it is low from set-up on
pub new-level : (offsets ws : List ℕ) → (new {H = ℕ} {W = ℕ} offsets ws).control.level ≡ false
unfolding new new_control
new-level offsets ws = refl

-- and set-up sets TXFIFO_EMPTY, bit 1 of INT_RAW, whatever its threshold
pub new-raw : (offsets ws : List ℕ) → (line_of (new {H = ℕ} {W = ℕ} offsets ws)).int_raw ≡ 2
unfolding new new_control
new-raw offsets ws = refl
