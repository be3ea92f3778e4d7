-- Each call looks into no byte: it commutes with a change of bytes. Assumes nothing.
use Rattle.std.specs.Prelude.{◌≡◌, ℕ, Bool, ltb, length, Ok}
use Rattle.std.proofs.Math.Path.{refl, ap, ap₂}
use Rattle.std.proofs.Common.{sym, ◌∙◌}
use Rattle.std.proofs.Math.Bool.{true, false}
use Rattle.std.proofs.Math.Option.{Option, none, some}
use mathlib.Core.List.{List, [], ◌∷◌, ◌++◌, map, map-append}
use Rattle.std.proofs.Math.ListN.{take, length-map}
use Rattle.model.specs.State.{Uart}
use Rattle.theorems.specs.TwoRuns.Renamed.{map_sent, map_uart}
use Rattle.model.specs.Setters.{with_host}
use Rattle.model.specs.Events.{passes_in, overflows_in}
use Rattle.model.specs.Settle.{Settled, found, ended, settle, levels}
use Rattle.model.specs.Arm.{arm}
use Rattle.model.specs.Replies.{ReadOf, word, report, no_report}
use Rattle.model.specs.Map.{Word, Shown, Register}
use Rattle.model.specs.Registers.{Access, gives, pop, shown_in, read_register, read_looking, read_at, gone_at, sent, dropped, send_byte}
use Rattle.model.specs.Registers.{reset_fifos, storing, clearing, write_register, concluded}
use Rattle.model.specs.Calls
use Rattle.model.specs.Calls.{Outcome, Plan, dated, settled_by, refusal_by, refusing, unless, after_settling}
use Rattle.model.specs.Calls.{carried, outcome, filled, not_taken, quiet, read_placed, write_placed, send, joined, hand_over, clocked}
use Rattle.model.specs.Calls.{cleared, written}
use Rattle.model.specs.Call.{Machine, Dated, Undated, Call, date_of, Reply}
use Rattle.model.specs.Run.{Step, stepped, replying, plan_by}
use Rattle.theorems.specs.TwoRuns.Natural.{map_event, map_settled, found-nat, passes-in-nat, overflows-in-nat, bytes-nat}
use Rattle.theorems.specs.TwoRuns.Natural.{last_gone-nat, pending-nat, levels-nat, settle-nat, arm-nat}
use Rattle.theorems.specs.TwoRuns.Alike.{Each}
use Rattle.model.proofs.Laws.Placed.{Put, Placed, changed_dated, changed_undated, changed, putting, step_placed, step_by}
use Rattle.theorems.specs.TwoRuns.Renamed.{map_read_of, map_take, map_reply, map_answer, itself}
use Rattle.model.specs.declared.Refusal.{Refusal}
use Rattle.model.specs.declared.Unsupported.{Unsupported}
use Rattle.model.specs.Names.{Write, Done}
use Rattle.model.proofs.Laws.Choose.{choose-nat}
use Rattle.model.proofs.Laws.Lists.{map-take, map-drop}

unfoldable pub map_put : {W W' : Type 0} → (W → W') → Put W → Put W'
map_put g (Put.byte b) = Put.byte (g b)
map_put g (Put.word p v) = Put.word p v

unfoldable pub map_placed : {H H' W W' L L' : Type 0} → (H → H') → (W → W') → (L → L') → Placed H W L → Placed H' W' L'
map_placed f g h c = changed itself (map_put g) (map f) (map h) c

unfoldable pub map_step : {H H' W W' L L' : Type 0} → (H → H') → (W → W') → (L → L') → Step H W L → Step H' W' L'
map_step f g h s = record { answer = map_answer f g h s.answer; state = map_uart f g s.state; events = map (map_event f g) s.events }

module _ {R R' H H' W W' : Type 0} (m : R → R') (f : H → H') (g : W → W') where
  unfoldable map_access : Access R H W → Access R' H' W'
  map_access a = record { reply = m a.reply; notes = a.notes; state = map_uart f g a.state }

  unfoldable pub map_outcome : Outcome R H W → Outcome R' H' W'
  map_outcome o = record {
    reply = m o.reply;
    report = o.report;
    state = map_uart f g o.state;
    events = map (map_event f g)
        o.events;
  }

  -- the second plan is the first with other bytes
  pub record Natural (p : Plan R H W) (p' : Plan R' H' W') : Type 0 where
    pub test : p'.test ≡ p.test
    refuses : (r : Refusal) → p'.refuses r ≡ m (p.refuses r)
    changes : Each (λ k k'. (v : Uart H W) → k' (map_uart f g v) ≡ map_uart f g (k v)) p.changes p'.changes
    work : (v : Uart H W) → p'.work (map_uart f g v) ≡ map_access (p.work v)

  pub unless-nat : (o : Option Refusal) (reply : Refusal → R) (reply' : Refusal → R') (work : Uart H W → Outcome R H W)
      (work' : Uart H' W' → Outcome R' H' W') (u : Uart H W)
      → ((r : Refusal) → reply' r ≡ m (reply r)) → work' (map_uart f g u) ≡ map_outcome (work u)
      → unless o reply' work' (map_uart f g u) ≡ map_outcome (unless o reply work u)
  unfolding unless refusing map_outcome
  unless-nat none reply reply' work work' u p q = q
  unless-nat (some r) reply reply' work work' u p q = ap (λ x. refusing x (map_uart f g u)) (p r)

  after-nat : (t : Settled H W) (work : Uart H W → Access R H W) (work' : Uart H' W' → Access R' H' W')
      → ((v : Uart H W) → work' (map_uart f g v) ≡ map_access (work v))
      → after_settling (map_settled f g t) work' ≡ map_outcome (after_settling t work)
  unfolding after_settling map_settled map_access map_outcome report
  after-nat t work work' p =
      ap (λ a. record {
        reply = a.reply;
        report = report (passes_in (map (map_event f g) t.events)) (overflows_in (map (map_event f g) t.events)) a.notes a.state;
        state = a.state;
        events = map (map_event f g) t.events;
      }) (p t.state)
      ∙ rw (passes-in-nat f g t.events, overflows-in-nat f g t.events)

  settled_by-nat : {ks : List (Uart H W → Uart H W)} {ks' : List (Uart H' W' → Uart H' W')} (now : ℕ)
      → Each (λ k k'. (v : Uart H W) → k' (map_uart f g v) ≡ map_uart f g (k v)) ks ks' → (t : Settled H W)
      → settled_by now ks' (map_settled f g t) ≡ map_settled f g (settled_by now ks t)
  unfolding map_settled
  settled_by-nat now Each.nil t = refl
  settled_by-nat now (Each.cons {a = k} {m = ks'} e es) t =
      let es₀ = (map_settled f g t).events in
      ap (λ v. settled_by now ks' (found es₀ (settle now v))) (e t.state)
      ∙ ap (λ x. settled_by now ks' (found es₀ x)) (settle-nat f g now (k t.state))
      ∙ ap (settled_by now ks') (found-nat f g t.events (settle now (k t.state)))
      ∙ settled_by-nat now es (found t.events (settle now (k t.state)))

  module _ {p : Plan R H W} {p' : Plan R' H' W'} (n : Natural p p') (u : Uart H W) where
    carried-nat : (d : Option ℕ) → carried d p' (map_uart f g u) ≡ map_outcome (carried d p u)
    unfolding carried map_access map_outcome dated map_settled
    carried-nat none = ap (λ a. record { reply = a.reply; report = no_report; state = a.state; events = [] }) (n.work u)
    carried-nat (some now) =
        ap (λ t. after_settling t p'.work) (settled_by-nat now n.changes (ended (dated now u)))
        ∙ after-nat _ p.work p'.work n.work

    pub outcome-nat : (d : Option ℕ) → outcome d p' (map_uart f g u) ≡ map_outcome (outcome d p u)
    unfolding outcome
    outcome-nat d =
        ap (λ t. unless (refusal_by d t u.control) p'.refuses (carried d p') (map_uart f g u)) n.test
        ∙ unless-nat _ p.refuses p'.refuses (carried d p) (carried d p') u n.refuses (carried-nat d)

  quiet-nat : (r : R) (u : Uart H W) {r' : R'} {u' : Uart H' W'} → r' ≡ m r → u' ≡ map_uart f g u → quiet r' u' ≡ map_access (quiet r u)
  unfolding quiet map_access
  quiet-nat r u p q = ap₂ quiet p q

  concluded-nat : (a : Access R H W) → concluded (map_access a) ≡ map_access (concluded a)
  unfolding concluded map_access
  concluded-nat a =
      ap (λ v. record { reply = m a.reply; notes = a.notes; state = v })
      (ap arm (levels-nat f g a.state) ∙ arm-nat f g (levels a.state))

module _ {H H' W W' : Type 0} (f : H → H') (g : W → W') where
  -- ---- register access

  pop-nat : (ns : List Unsupported) (bs : List H) (u : Uart H W)
      → pop ns (map f bs) (map_uart f g u) ≡ map_access (map_read_of f) f g (pop ns bs u)
  unfolding pop map_access map_read_of
  pop-nat ns [] u = refl
  pop-nat ns (b ∷ bs) u = refl

  shown_in-nat : (s : Shown) (u : Uart H W) → shown_in (map_uart f g u) s ≡ shown_in u s
  unfolding shown_in
  shown_in-nat Shown.int_raw u = refl
  shown_in-nat Shown.int_st u = refl
  shown_in-nat Shown.status u = rw (length-map u.in_flight (map_sent g), length-map u.rx f)
  shown_in-nat Shown.fsm_status u = rw (length-map u.in_flight (map_sent g))
  shown_in-nat Shown.mem_rx_status u = refl

  read_register-nat : (ns : List Unsupported) (k : Register) (u : Uart H W)
      → read_register ns k (map_uart f g u) ≡ map_access (map_read_of f) f g (read_register ns k u)
  unfolding read_register map_access map_read_of
  read_register-nat ns Register.fifo u = pop-nat ns u.rx u
  read_register-nat ns Register.int_clr u = refl
  read_register-nat ns Register.unknown u = refl
  read_register-nat ns (Register.shown s) u = ap (λ (n : ℕ). gives ns (map_uart f g u) (word n)) (shown_in-nat s u)
  read_register-nat ns (Register.stored x) u = refl

  read_looking-nat : (b : Bool) (k : Register) (u : Uart H W)
      → read_looking b k (map_uart f g u) ≡ map_access (map_read_of f) f g (read_looking b k u)
  unfolding read_looking
  read_looking-nat true k u = read_register-nat _ k _
  read_looking-nat false k u = read_register-nat _ k u

  read_placed-nat : (now : ℕ) (p : Register) (u : Uart H W)
      → Natural (map_read_of f) f g (read_placed now p u) (read_placed now p (map_uart f g u))
  unfolding read_placed read_at dated map_read_of
  read_placed-nat now p u =
      record { test = refl; refuses = λ r. refl; changes = Each.cons (λ v. refl) Each.nil; work = λ v. read_looking-nat _ p v }

  storing-nat : (x : Word) (v : ℕ) (u : Uart H W) → storing x v (map_uart f g u) ≡ map_access itself f g (storing x v u)
  unfolding storing map_access
  storing-nat x v u = refl

  clearing-nat : (v : ℕ) (u : Uart H W) → clearing v (map_uart f g u) ≡ map_access itself f g (clearing v u)
  unfolding clearing map_access
  clearing-nat v u = refl

  reset_fifos-nat : (v : ℕ) (u : Uart H W) → reset_fifos v (map_uart f g u) ≡ map_uart f g (reset_fifos v u)
  unfolding reset_fifos
  reset_fifos-nat v u =
      rw (choose-nat (map f) _ {x = []} {y = u.rx} refl refl)
      (rw (choose-nat (map (map_sent g)) _ {x = take 1 u.in_flight} {y = u.in_flight} (sym (map-take (map_sent g) 1 u.in_flight)) refl))

  write_register-nat : (k : Register) (v : ℕ) (u : Uart H W) → write_register k v (map_uart f g u)
      ≡ map_access itself f g (write_register k v u)
  unfolding write_register map_access
  write_register-nat Register.fifo v u = refl
  write_register-nat Register.int_clr v u = clearing-nat v u
  write_register-nat Register.unknown v u = refl
  write_register-nat (Register.shown s) v u = refl
  write_register-nat (Register.stored x) v u =
      ap (storing x v) (choose-nat (map_uart f g) _ (reset_fifos-nat v u) refl) ∙ storing-nat x v _

  sent-nat : (now : ℕ) (b : W) (u : Uart H W) → sent now (g b) (map_uart f g u) ≡ map_access itself f g (sent now b u)
  unfolding sent gone_at map_access
  sent-nat now b u =
      rw (last_gone-nat g u.in_flight, map-append (map_sent g) u.in_flight (record { gone_at = gone_at now u; byte = b } ∷ []))

  dropped-nat : (u : Uart H W) → dropped (map_uart f g u) ≡ map_access itself f g (dropped u)
  unfolding dropped map_access
  dropped-nat u = refl

  send_byte-nat : (now : ℕ) (b : W) (u : Uart H W) → send_byte now (g b) (map_uart f g u) ≡ map_access itself f g (send_byte now b u)
  unfolding send_byte
  send_byte-nat now b u = rw (length-map u.in_flight (map_sent g)) (choose-nat (map_access itself f g) _ (dropped-nat u) (sent-nat now b u))

  pub putting-nat : (now : ℕ) (x : Put W) (u : Uart H W) → Natural itself f g (putting now x u) (putting now (map_put g x) (map_uart f g u))
  unfolding putting map_put send write_placed dated
  putting-nat now (Put.byte b) u = record {
    test = rw (length-map u.tx g, length-map u.in_flight (map_sent g));
    refuses = λ r. refl;
    changes = Each.cons (λ v. refl) Each.nil;
    work = λ v. ap concluded (send_byte-nat now b v) ∙ concluded-nat itself f g _;
  }
  putting-nat now (Put.word p x) u = record {
    test = refl;
    refuses = λ r. refl;
    changes = Each.cons (λ v. refl) Each.nil;
    work = λ v. ap concluded (write_register-nat p x v) ∙ concluded-nat itself f g _;
  }

  -- ---- the host

  hand_over-nat : (date : ℕ) (bs : List H) (u : Uart H W) → hand_over date (map f bs) (map_uart f g u) ≡ map_uart f g (hand_over date bs u)
  unfolding hand_over
  hand_over-nat date [] u = refl
  hand_over-nat date (b ∷ bs) u =
      rw (length-map bs f, ← map-append f u.host (b ∷ bs))
      (arm-nat f g (with_host (u.host ++ (b ∷ bs)) (joined date (length (b ∷ bs)) u.host_runs) u))

  receive-nat : (now at : ℕ) (bs : List H) (u : Uart H W)
      → Natural itself f g (Calls.receive now at bs u) (Calls.receive now at (map f bs) (map_uart f g u))
  unfolding Calls.receive dated
  receive-nat now at bs u = record {
    test = rw (length-map u.host f, length-map bs f);
    refuses = λ r. refl;
    changes = Each.cons (λ v. refl) Each.nil;
    work = λ v. quiet-nat itself f g (Ok tt) _ refl (hand_over-nat _ bs v);
  }

  host_pending-nat : (u : Uart H W) → Natural itself f g (Calls.host_pending u) (Calls.host_pending (map_uart f g u))
  unfolding Calls.host_pending
  host_pending-nat u = record {
    test = refl;
    refuses = λ r. pending-nat f g u;
    changes = Each.nil;
    work = λ v. quiet-nat itself f g _ v (pending-nat f g v) refl;
  }

  -- ---- wake, watch, clock, power-down, reset

  armed-nat : (v : Uart H W) → quiet {R = Done} (Ok tt) (arm (map_uart f g v)) ≡ map_access itself f g (quiet (Ok tt) (arm v))
  armed-nat v = quiet-nat itself f g (Ok tt) (arm v) refl (arm-nat f g v)

  wake-nat : (now : ℕ) (u : Uart H W)
      → Natural itself f g (Calls.machine now Machine.wake u) (Calls.machine now Machine.wake (map_uart f g u))
  unfolding Calls.machine dated
  wake-nat now u = record { test = refl; refuses = λ r. refl; changes = Each.cons (λ v. refl) Each.nil; work = armed-nat }

  watch-nat : (now : ℕ) (b : Bool) (u : Uart H W)
      → Natural itself f g (Calls.machine now (Machine.watch b) u) (Calls.machine now (Machine.watch b) (map_uart f g u))
  unfolding Calls.machine
  watch-nat now b u = record { test = refl; refuses = λ r. refl; changes = Each.nil; work = λ v. armed-nat _ }

  power_down-nat : (now : ℕ) (u : Uart H W)
      → Natural itself f g (Calls.machine now Machine.power_down u) (Calls.machine now Machine.power_down (map_uart f g u))
  unfolding Calls.machine
  power_down-nat now u =
      record { test = refl; refuses = λ r. refl; changes = Each.nil; work = λ v. quiet-nat itself f g (Ok tt) _ refl refl }

  clock_change-nat : (now period : ℕ) (u : Uart H W)
      → Natural itself f g (Calls.machine now (Machine.clock_change period) u)
      (Calls.machine now (Machine.clock_change period) (map_uart f g u))
  unfolding Calls.machine dated clocked map_settled
  clock_change-nat now period u = record {
    test = refl;
    refuses = λ r. refl;
    changes = Each.cons (λ v. refl) (Each.cons (λ v. refl) Each.nil);
    work = armed-nat;
  }

  reset-nat : (now : ℕ) (u : Uart H W)
      → Natural itself f g (Calls.machine now Machine.reset u) (Calls.machine now Machine.reset (map_uart f g u))
  unfolding Calls.machine dated cleared
  reset-nat now u = record {
    test = refl;
    refuses = λ r. refl;
    changes = Each.cons (λ v. refl) Each.nil;
    work = λ v. ap (λ w. quiet (Ok tt) (arm w)) (levels-nat f g (cleared v)) ∙ armed-nat (levels (cleared v));
  }

  machine-nat : (now : ℕ) (m : Machine) (u : Uart H W) → Natural itself f g (Calls.machine now m u) (Calls.machine now m (map_uart f g u))
  unfolding Calls.machine
  machine-nat now Machine.wake u = wake-nat now u
  machine-nat now Machine.reset u = reset-nat now u
  machine-nat now Machine.power_down u = power_down-nat now u
  machine-nat now (Machine.watch b) u = watch-nat now b u
  machine-nat now (Machine.clock_change period) u = clock_change-nat now period u

  -- ---- taking what was sent

  has_left-nat : (u : Uart H W) → Natural itself f g (Calls.has_left u) (Calls.has_left (map_uart f g u))
  unfolding Calls.has_left
  has_left-nat u = record {
    test = refl;
    refuses = λ r. ap (ltb 0) (length-map u.tx g);
    changes = Each.nil;
    work = λ v. quiet-nat itself f g _ v (ap (ltb 0) (length-map v.tx g)) refl;
  }

  pub written-nat : (u : Uart H W) → written (map_uart f g u) ≡ map g (written u)
  unfolding written
  written-nat u = rw (bytes-nat g u.in_flight, map-append g u.tx (map (λ s. s.byte) u.in_flight))

  module _ {L L' : Type 0} (h : L → L') where
    pub filled-nat : (out : List W) (lent : List L) → filled (map g out) (map h lent) ≡ map_take g h (filled out lent)
    unfolding filled map_take
    filled-nat out lent = rw (length-map out g, map-drop h (length out) lent)

    pub not_taken-nat : (lent : List L) (r : Refusal) → not_taken (map h lent) r ≡ map_take g h (not_taken lent r)
    unfolding not_taken map_take
    not_taken-nat lent r = refl

    take_tx-nat : (now : ℕ) (lent : List L) (u : Uart H W)
        → Natural (map_take g h) f g (Calls.take_tx now lent u) (Calls.take_tx now (map h lent) (map_uart f g u))
    unfolding Calls.take_tx dated
    take_tx-nat now lent u = record {
      test = rw (length-map lent h);
      refuses = not_taken-nat lent;
      changes = Each.cons (λ v. refl) Each.nil;
      work = λ v. quiet-nat (map_take g h) f g _ _ (filled-nat v.tx lent) refl;
    }

    take_written-nat : (lent : List L) (u : Uart H W)
        → Natural (map_take g h) f g (Calls.take_written lent u) (Calls.take_written (map h lent) (map_uart f g u))
    unfolding Calls.take_written
    take_written-nat lent u = record {
      test = rw (length-map lent h);
      refuses = not_taken-nat lent;
      changes = Each.nil;
      work = λ v. quiet-nat (map_take g h) f g _ _ (ap (λ o. filled o (map h lent)) (written-nat v) ∙ filled-nat (written v) lent) refl;
    }

    -- ---- a call

    replying-nat : {R R' : Type 0} (m : R → R') (k : R → Reply H W L) (k' : R' → Reply H' W' L') {p : Plan R H W} {p' : Plan R' H' W'}
        → ((r : R) → k' (m r) ≡ map_reply f g h (k r)) → Natural m f g p p' → Natural (map_reply f g h) f g (replying k p) (replying k' p')
    unfolding replying map_access
    replying-nat m k k' {p} q n = record {
      test = n.test;
      refuses = λ r. ap k' (n.refuses r) ∙ q (p.refuses r);
      changes = n.changes;
      work = λ v. ap (λ a. gives a.notes a.state (k' a.reply)) (n.work v)
          ∙ ap (gives (p.work v).notes (map_uart f g (p.work v).state)) (q (p.work v).reply);
    }

    -- the plan of a call is natural where those of reads and writes are
    module _ {R R' X X' : Type 0} (a : R → R') (b : X → X') (rd : ℕ → R → Uart H W → Plan (ReadOf H) H W)
        (rd' : ℕ → R' → Uart H' W' → Plan (ReadOf H') H' W') (wr : ℕ → X → Uart H W → Plan Write H W)
        (wr' : ℕ → X' → Uart H' W' → Plan Write H' W')
        (rd-nat : (now : ℕ) (r : R) (u : Uart H W) → Natural (map_read_of f) f g (rd now r u) (rd' now (a r) (map_uart f g u)))
        (wr-nat : (now : ℕ) (x : X) (u : Uart H W) → Natural itself f g (wr now x u) (wr' now (b x) (map_uart f g u))) where
      plan_by-nat : (c : Call R X H L) (u : Uart H W)
          → Natural (map_reply f g h) f g (plan_by rd wr c u) (plan_by rd' wr' (changed a b (map f) (map h) c) (map_uart f g u))
      unfolding plan_by changed changed_dated changed_undated map_reply
      plan_by-nat (Call.at now (Dated.read r)) u = replying-nat (map_read_of f) _ _ (λ y. refl) (rd-nat now r u)
      plan_by-nat (Call.at now (Dated.write x)) u = replying-nat itself _ _ (λ y. refl) (wr-nat now x u)
      plan_by-nat (Call.at now (Dated.receive date bs)) u = replying-nat itself _ _ (λ y. refl) (receive-nat now date bs u)
      plan_by-nat (Call.at now (Dated.take_tx lent)) u = replying-nat (map_take g h) _ _ (λ y. refl) (take_tx-nat now lent u)
      plan_by-nat (Call.at now (Dated.machine m)) u = replying-nat itself _ _ (λ y. refl) (machine-nat now m u)
      plan_by-nat (Call.undated (Undated.take_written lent)) u = replying-nat (map_take g h) _ _ (λ y. refl) (take_written-nat lent u)
      plan_by-nat (Call.undated Undated.has_left) u = replying-nat itself _ _ (λ y. refl) (has_left-nat u)
      plan_by-nat (Call.undated Undated.host_pending) u = replying-nat itself _ _ (λ y. refl) (host_pending-nat u)

      date-nat : (c : Call R X H L) → date_of (changed a b (map f) (map h) c) ≡ date_of c
      unfolding date_of changed
      date-nat (Call.at now c) = refl
      date-nat (Call.undated c) = refl

      step_by-nat : (c : Call R X H L) (u : Uart H W) → step_by rd' wr' (changed a b (map f) (map h) c) (map_uart f g u)
          ≡ map_step f g h (step_by rd wr c u)
      unfolding step_by stepped map_step map_answer map_outcome
      step_by-nat c u =
          ap (λ d. stepped (outcome d (plan_by rd' wr' (changed a b (map f) (map h) c) (map_uart f g u)) (map_uart f g u))) (date-nat c)
          ∙ ap stepped (outcome-nat (map_reply f g h) f g (plan_by-nat c u) u (date_of c))

    -- a placed call commutes with a change of bytes
    pub step_placed-nat : (c : Placed H W L) (u : Uart H W) → step_placed (map_placed f g h c) (map_uart f g u)
        ≡ map_step f g h (step_placed c u)
    unfolding step_placed map_placed
    step_placed-nat c u = step_by-nat itself (map_put g) _ _ _ _ read_placed-nat putting-nat c u
