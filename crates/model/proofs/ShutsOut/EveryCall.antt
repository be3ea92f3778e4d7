-- How to prove of every call that it leads from one state to a next: from what a settling does, what raising levels does, and
-- what holds of changes elsewhere. Assumes nothing.
use Rattle.model.specs.declared.Source.{Source}
use Rattle.std.specs.Prelude.{◌≡◌, Bool, take, Some, None, Ok, Err}
use Rattle.std.proofs.Math.Path.{refl}
use Rattle.std.proofs.Common.{ap, arith}
use Prim.Native.Nat.{ℕ, ◌%◌, ◌≤◌}
use Rattle.std.proofs.Math.Bool.{true, false}
use Rattle.std.proofs.Math.Option.{Option, some}
use mathlib.Core.List.{List, [], ◌∷◌}
use Rattle.dates.specs.Dates.{subcycles}
use Rattle.model.specs.Numbers.{earliest, instant_of}
use Rattle.model.specs.State.{OnTheLine, Uart, line_of}
use Rattle.model.specs.Setters.{with_wake, with_mistimed, with_powered_down_at, with_control, with_tx}
use Rattle.model.specs.Setters.{with_line_of}
use Rattle.model.specs.Settle.{levels, settling_date, settle_to, settle}
use Rattle.model.specs.Arm.{arm, called}
use Rattle.model.specs.Replies.{ReadOf}
use Rattle.model.specs.Map.{Register, register_of}
use Rattle.model.specs.Registers.{Access, pop, read_register, looks, read_looking, read_at, send_byte, sent, dropped}
use Rattle.model.specs.Registers.{storing, clearing, reset_fifos, write_register, concluded}
use Rattle.model.specs.Calls
use Rattle.model.specs.Calls.{Outcome, Plan, refusing, carried, outcome, quiet, filled, dated, clocked, host_date}
use Rattle.model.specs.Plans.{settle_at}
use Rattle.model.specs.Calls.{cleared, hand_over, after_settling, write_placed, send}
use Rattle.model.specs.Call.{Machine, Dated, Undated, Call, date_of, Written, Request, Reply}
use Rattle.model.specs.Row.{row_limit, fifo_write, writes, left_by, summed, row}
use Rattle.model.specs.Run.{stepped, replying, plan_by, writing, plan, step}
use Rattle.model.proofs.Laws.Choose.{choose-ind}
use Rattle.model.proofs.Laws.AccessCases.{write-ind, unless-ind, write_register-ind, read_register-ind}
use Rattle.model.specs.Names.{Date, Row, Write, Done}
use Rattle.model.specs.declared.RegisterMap.{RegisterMap}
use Rattle.model.specs.declared.Unsupported.{Unsupported}

-- INT_RAW, the byte on the line, when it lands, and the register map
abbrev pub watched_parts : Uart ℕ ℕ → ℕ × Option (OnTheLine ℕ) × ℕ × RegisterMap
watched_parts u = ((line_of u).int_raw, u.receiving, (line_of u).line_free_at, u.map)

-- what a relation between states needs to be led along a call with a date, if it has one
pub record Walk (d : Option ℕ) (R : Uart ℕ ℕ → Uart ℕ ℕ → Type 0) : Type 0 where
  pub on : (u v w : Uart ℕ ℕ) → R u v → R v w → R u w
  pub alike : (u v : Uart ℕ ℕ) → watched_parts v ≡ watched_parts u → R u v
  pub settling : (now : ℕ) → d ≡ some now → (date : ℕ) → date ≤ subcycles now → (u : Uart ℕ ℕ) → R u (settle_to date u).state
  pub raising : (u : Uart ℕ ℕ) → R u (levels u)

no-later : (d : Date) (n : ℕ) → instant_of (earliest (Some n) d) ≤ n
unfolding earliest instant_of
no-later None n = omega arith
no-later (Some a) n = omega arith

module _ (now : ℕ) (R : Uart ℕ ℕ → Uart ℕ ℕ → Type 0) (k : Walk (some now) R) where
  walk-settle : (u : Uart ℕ ℕ) → R u (settle now u).state
  unfolding settle settling_date
  walk-settle u = k.settling now refl _ (no-later u.control.powered_down_at (subcycles now)) u

  walk-settled : (u : Uart ℕ ℕ) → R u (settle_at now u).state
  unfolding dated
  walk-settled u = k.on u (dated now u) _ (k.alike u _ refl) (walk-settle (dated now u))

  walk_after : {A : Type 0} (u : Uart ℕ ℕ) (work : Uart ℕ ℕ → Access A ℕ ℕ) → ((v : Uart ℕ ℕ) → R v (work v).state)
      → R u (after_settling (settle_at now u) work).state
  unfolding after_settling
  walk_after u work h = k.on u (settle_at now u).state _ (walk-settled u) (h (settle_at now u).state)

  -- ---- reads

  walk-pop : (ns : List Unsupported) (bs : List ℕ) (u : Uart ℕ ℕ) → R u (pop ns bs u).state
  unfolding pop
  walk-pop ns [] u = k.alike u u refl
  walk-pop ns (b ∷ bs) u = k.alike u _ refl

  walk-register : (ns : List Unsupported) (r : Register) (u : Uart ℕ ℕ) → R u (read_register ns r u).state
  walk-register ns r u =
      read_register-ind (λ (a : Access (ReadOf ℕ) ℕ ℕ). R u a.state) ns u (walk-pop ns u.rx u) (λ _. k.alike u u refl) r

  walk-looking : (b : Bool) (p : Register) (u : Uart ℕ ℕ) → R u (read_looking b p u).state
  unfolding read_looking
  walk-looking true p u = k.on u _ _ (k.alike u (with_line_of (with_mistimed Source.None (line_of u)) u) refl) (walk-register _ p _)
  walk-looking false p u = walk-register [] p u

  walk-read : (p : Register) (u : Uart ℕ ℕ) → R u (read_at p u).state
  unfolding read_at
  walk-read p u = walk-looking (looks p) p u

  -- ---- writes

  walk-concluded : {A : Type 0} (u : Uart ℕ ℕ) (a : Access A ℕ ℕ) → R u a.state → R u (concluded a).state
  unfolding concluded arm
  walk-concluded u a h =
      k.on u a.state _ h (k.on a.state (levels a.state) _ (k.raising a.state) (k.alike (levels a.state) _ refl))

  walk-send : (b : ℕ) (u : Uart ℕ ℕ) → R u (send_byte now b u).state
  unfolding send_byte sent dropped
  walk-send b u = choose-ind (λ (a : Access Write ℕ ℕ). R u a.state) _ (λ _. k.alike u u refl) (λ _. k.alike u _ refl)

  walk-fifo : (b : ℕ) (u : Uart ℕ ℕ) → R u (carried (some now) (send now b u) u).state
  unfolding carried send
  walk-fifo b u = walk_after u (λ s. concluded (send_byte now b s)) (λ v. walk-concluded v _ (walk-send b v))

  walk-write-register : (v : ℕ) (u : Uart ℕ ℕ) (p : Register) → (p ≡ Register.int_clr → R u (clearing v u).state)
      → R u (write_register p v u).state
  unfolding storing reset_fifos
  walk-write-register v u =
      write_register-ind (λ (p : Register) (a : Access Write ℕ ℕ). (p ≡ Register.int_clr → R u (clearing v u).state) → R u a.state) v u
      (λ p _. k.alike u u refl) (λ h. h refl) (λ x _. k.alike u _ refl) (λ x _. k.alike u _ refl)

  walk-write : (x : Written) (u : Uart ℕ ℕ) → (register_of u.map.offsets x.offset ≡ Register.int_clr → (v : ℕ) (s : Uart ℕ ℕ)
      → R s (clearing v s).state)
      → R u (carried (some now) (Calls.write now x.offset x.value u) u).state
  unfolding carried Calls.write send write_placed
  walk-write x u clr =
      let p : Register = register_of u.map.offsets x.offset in
      write-ind (λ (q : Plan Write ℕ ℕ). R u (carried (some now) q u).state) now p x.value u
      (λ _. walk-fifo (x.value % 256) u)
      (λ _. walk_after u (λ s. concluded (write_register p x.value s))
      (λ v. walk-concluded v _ (walk-write-register x.value v p (λ e. clr e x.value v))))

  -- ---- the other calls

  walk-hand-over : (date : ℕ) (bs : List ℕ) (u : Uart ℕ ℕ) → R u (hand_over date bs u)
  unfolding hand_over arm
  walk-hand-over date [] u = k.alike u u refl
  walk-hand-over date (b ∷ bs) u = k.alike u _ refl

  -- a settling after a change elsewhere, and the next wake armed
  walk-armed : (u v : Uart ℕ ℕ) → watched_parts v ≡ watched_parts u → R u (arm (settle_at now v).state)
  unfolding arm
  walk-armed u v e =
      k.on u v _ (k.alike u v e) (k.on v (settle_at now v).state _ (walk-settled v) (k.alike (settle_at now v).state _ refl))

  walk-wake : (u : Uart ℕ ℕ) → R u (carried (some now) (Calls.machine now Machine.wake u) u).state
  unfolding carried Calls.machine after_settling quiet dated
  walk-wake u = walk-armed u (with_control (with_wake (called now u.control.wake) u.control) u) refl

  -- a clock change settles twice
  walk-clock : (period : ℕ) (u : Uart ℕ ℕ) → R u (carried (some now) (Calls.machine now (Machine.clock_change period) u) u).state
  unfolding carried Calls.machine after_settling clocked arm quiet
  walk-clock period u =
      let v : Uart ℕ ℕ = (settle_at now u).state in
      let w : Uart ℕ ℕ = clocked period v in
      k.on u v _ (walk-settled u) (k.on v w _ (k.alike v w refl)
      (k.on w (settle now w).state _ (walk-settle w) (k.alike (settle now w).state _ refl)))

  walk-reset : (u : Uart ℕ ℕ) → ((s : Uart ℕ ℕ) → R s (cleared s)) → R u (carried (some now) (Calls.machine now Machine.reset u) u).state
  unfolding carried Calls.machine after_settling quiet arm dated
  walk-reset u clr =
      let v : Uart ℕ ℕ = with_control (with_powered_down_at None u.control) u in
      let w : Uart ℕ ℕ = (settle_at now v).state in
      k.on u v _ (k.alike u v refl)
      (k.on v w _ (walk-settled v) (k.on w (cleared w) _ (clr w)
      (k.on (cleared w) (levels (cleared w)) _ (k.raising (cleared w)) (k.alike (levels (cleared w)) _ refl))))

-- what each call does where it is not refused
machine-walk : (now : ℕ) (m : Machine) (u : Uart ℕ ℕ) (R : Uart ℕ ℕ → Uart ℕ ℕ → Type 0) → Walk (some now) R
    → (m ≡ Machine.reset → (s : Uart ℕ ℕ) → R s (cleared s)) → R u (carried (some now) (Calls.machine now m u) u).state
unfolding Calls.machine carried after_settling quiet arm dated
machine-walk now Machine.wake u R k rst = walk-wake now R k u
machine-walk now Machine.reset u R k rst = walk-reset now R k u (rst refl)
machine-walk now Machine.power_down u R k rst = k.alike u _ refl
machine-walk now (Machine.watch b) u R k rst = k.alike u _ refl
machine-walk now (Machine.clock_change p) u R k rst = walk-clock now R k p u

carried-walk : (c : Request) (u : Uart ℕ ℕ) (R : Uart ℕ ℕ → Uart ℕ ℕ → Type 0) → Walk (date_of c) R
    → ((now : ℕ) (x : Written) → c ≡ Call.at now (Dated.write x) → register_of u.map.offsets x.offset ≡ Register.int_clr
    → (v : ℕ) (s : Uart ℕ ℕ) → R s (clearing v s).state)
    → ((now : ℕ) → c ≡ Call.at now (Dated.machine Machine.reset) → (s : Uart ℕ ℕ) → R s (cleared s))
    → R u (carried (date_of c) (plan c u) u).state
unfolding date_of plan plan_by replying carried after_settling writing quiet Calls.read Calls.read_placed Calls.receive
    Calls.take_tx Calls.take_written Calls.has_left Calls.host_pending
carried-walk (Call.at now (Dated.read r)) u R k clr rst =
    let p : Register = register_of u.map.offsets r in walk_after now R k u (read_at p) (walk-read now R k p)
carried-walk (Call.at now (Dated.write x)) u R k clr rst = walk-write now R k x u (clr now x refl)
carried-walk (Call.at now (Dated.receive date bs)) u R k clr rst =
    let done : Done = Ok tt in walk_after now R k u (λ s. quiet done (hand_over (host_date now date) bs s)) (walk-hand-over now R k _ bs)
carried-walk (Call.at now (Dated.take_tx lent)) u R k clr rst =
    walk_after now R k u (λ s. quiet (filled s.tx lent) (with_tx [] s)) (λ v. k.alike v _ refl)
carried-walk (Call.at now (Dated.machine m)) u R k clr rst =
    machine-walk now m u R k (λ e. rst now (ap (λ n. Call.at now (Dated.machine n)) e))
carried-walk (Call.undated (Undated.take_written lent)) u R k clr rst = k.alike u _ refl
carried-walk (Call.undated Undated.has_left) u R k clr rst = k.alike u u refl
carried-walk (Call.undated Undated.host_pending) u R k clr rst = k.alike u u refl

-- every call leads from its state to the next
pub every_call : (c : Request) (u : Uart ℕ ℕ) (R : Uart ℕ ℕ → Uart ℕ ℕ → Type 0) → Walk (date_of c) R
    → ((now : ℕ) (x : Written) → c ≡ Call.at now (Dated.write x) → register_of u.map.offsets x.offset ≡ Register.int_clr
    → (v : ℕ) (s : Uart ℕ ℕ) → R s (clearing v s).state)
    → ((now : ℕ) → c ≡ Call.at now (Dated.machine Machine.reset) → (s : Uart ℕ ℕ) → R s (cleared s))
    → R u (step c u).state
unfolding step stepped outcome refusing
every_call c u R k clr rst =
    unless-ind (λ (o : Outcome (Reply ℕ ℕ ℕ) ℕ ℕ). R u o.state) _ (plan c u).refuses (carried (date_of c) (plan c u)) u
    (λ r. k.alike u u refl) (carried-walk c u R k clr rst)

-- and so does every row
pub every-row : (now : ℕ) (bs : List ℕ) (u : Uart ℕ ℕ) (R : Uart ℕ ℕ → Uart ℕ ℕ → Type 0) → Walk (some now) R → R u (row now bs u).state
unfolding row refusing summed writes left_by outcome send
every-row now bs u R k =
    unless-ind (λ (o : Outcome Row ℕ ℕ). R u o.state) _ Err _ u (λ r. k.alike u u refl) (made (take row_limit bs) u)
  where
    one : (b : ℕ) (v : Uart ℕ ℕ) → R v (fifo_write now v b).state
    one b v =
        unless-ind (λ (o : Outcome Write ℕ ℕ). R v o.state) _ Err _ v (λ r. k.alike v v refl) (walk-fifo now R k b v)

    made : (cs : List ℕ) (v : Uart ℕ ℕ) → R v (left_by v (writes now v cs))
    made [] v = k.alike v v refl
    made (b ∷ cs) v =
        choose-ind (λ os. R v (left_by v os)) _ (λ _. k.on v _ _ (one b v) (made cs (fifo_write now v b).state)) (λ _. k.alike v v refl)
