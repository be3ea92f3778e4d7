-- Every call keeps a state within the limits, refused or carried out, from every such state. Assumes nothing.
use Rattle.std.specs.Prelude.{◌≡◌, refl, ℕ, ◌%◌, ◌≤◌, ◌<◌, Bool, true, false, ◌&&◌, ltb, length, None, Err}
use Rattle.std.proofs.Common.{subst, ◌∙◌, zero-le, arith, zero-lt-suc, lit≤, leb-false, ltb-false, lt-ltb}
use Rattle.std.proofs.Math.Nat.{max-le, le-max_right, min-le_right, lt_of_le_of_lt}
use Rattle.std.proofs.lemmas.Bool.{false≢true}
use Rattle.std.proofs.Math.Bool.{and_comm}
use Rattle.std.proofs.Math.Option.{none, some}
use mathlib.Core.List.{List, [], ◌∷◌}
use Rattle.model.specs.State.{Uart}
use Rattle.model.specs.Setters.{with_tx, with_wake, with_watched, with_powered_down_at, with_control}
use Rattle.model.specs.Settle.{settle, levels}
use Rattle.model.specs.Arm.{called}
use Rattle.model.specs.Map.{Register, register_of}
use Rattle.model.specs.Tests.{sent_limit, runs_limit, period_limit, host_full, runs_full}
use Rattle.model.specs.Calls
use Rattle.model.specs.Call.{Machine}
use Rattle.model.specs.Calls.{unless, after_settling, outcome, carried, last_date, host_date, cleared_line, dated, quiet, hand_over}
use Rattle.model.specs.Plans.{settle_at}
use Rattle.model.specs.Calls.{not_taken, clocked, cleared}
use Rattle.model.specs.Limits.{Chain, All, Fits, Within}
use Rattle.model.proofs.Laws.AccessCases.{write-ind}
use Rattle.model.proofs.Keeps.Parts.{FlightWithin, Parts, put_clock, put_flight, put_rx, put_host, put_line, through}
use Rattle.model.proofs.Keeps.Kept.{Kept, settle-keeps, fewer-waiting, fewer-runs, last-run}
use Rattle.model.proofs.Keeps.Settling.{levels-parts, settle-parts}
use Rattle.model.proofs.Keeps.Wake.{called-within, arm-parts}
use Rattle.model.proofs.Keeps.Host.{joined-within}
use Rattle.model.proofs.Keeps.Dated.{not-refused, unless-parts, dated-parts, moved-parts, settle_at-parts}
use Rattle.model.proofs.Keeps.Access.{read_placed-parts, write_placed-parts, send-parts}

-- ---- the host

other_half : (a b : Bool) → (a && b) ≡ false → a ≡ true → b ≡ false
other_half true b e t = e
other_half false b e t = absurd (false≢true t)

-- what test 6 leaves
pub room-before : (new runs last date : ℕ) → runs_full new runs last date ≡ false → 1 ≤ new → last < date → runs < runs_limit
unfolding runs_full
room-before new runs last date e h late =
    leb-false _ _ (other_half (ltb last date) _ (and_comm (ltb last date) _ ∙ other_half (ltb 0 new) _ e (lt-ltb 0 new h))
    (lt-ltb last date late))

-- no byte in flight
empty-flight : {W : Type 0} (tx : List W) → length tx ≤ sent_limit → FlightWithin [] tx
empty-flight tx le = record { flying = omega arith; order = Chain.empty; fit = All.nil; sent = omega arith }

module _ {H W : Type 0} where
  -- tests 5 and 6 read the state before settling, which takes only from the front
  hand_over-parts : (date : ℕ) (bs : List H) (u v : Uart H W) → Kept u v → Fits date → host_full (length u.host) (length bs) ≡ false
      → runs_full (length bs) (length u.host_runs) (last_date u.host_runs) date ≡ false → Parts v → Parts (hand_over date bs v)
  unfolding hand_over host_full
  hand_over-parts date [] u v k f five six p = p
  hand_over-parts date (b ∷ bs) u v k f five six p =
      arm-parts _
      (put_host p (joined-within date v.host_runs v.host (b ∷ bs) f (zero-lt-suc _) (omega (arith, fewer-waiting k, ltb-false))
      (λ some-run late. lt_of_le_of_lt (fewer-runs k)
      (room-before _ _ _ date six (zero-lt-suc _) (subst (λ d. d < date) (last-run k some-run) late)))
      p.host))

  receive-parts : (now at : ℕ) (bs : List H) (u : Uart H W) → Parts u → Parts (outcome (some now) (Calls.receive now at bs u) u).state
  unfolding outcome carried Calls.receive after_settling quiet dated host_date
  receive-parts now at bs u p =
      dated-parts Err _ u p now _
      (λ h e. let five = not-refused _ _ _ e in
      hand_over-parts (host_date now at) bs (dated now u) (settle_at now u).state (settle-keeps now (dated now u)) (min-le_right _ _)
      five.0 (not-refused _ _ none five.1).0
      (settle_at-parts now u h p))

  -- ---- wake, watch, clock, power-down, reset

  wake-parts : (now : ℕ) (u : Uart H W) → Parts u → Parts (outcome (some now) (Calls.machine now Machine.wake u) u).state
  unfolding outcome carried Calls.machine after_settling quiet dated
  wake-parts now u p =
      let v : Uart H W = with_control (with_wake (called now u.control.wake) u.control) u in
      dated-parts Err _ u p now none
      (λ h _. arm-parts (settle_at now v).state (settle_at-parts now v h (put_clock p
      (record {
        low = p.clock.low;
        high = p.clock.high;
        last = p.clock.last;
        wake = called-within now u.control.wake p.clock.wake;
      }))))

  watch-parts : (now : ℕ) (b : Bool) (u : Uart H W) → Parts u → Parts (outcome (some now) (Calls.machine now (Machine.watch b) u) u).state
  unfolding outcome carried Calls.machine after_settling quiet dated
  watch-parts now b u p =
      let v : Uart H W = with_control (with_watched b (dated now u).control) (dated now u) in
      dated-parts Err _ u p now none (λ h _. arm-parts v (moved-parts now u h p))

  power_down-parts : (now : ℕ) (u : Uart H W) → Parts u → Parts (outcome (some now) (Calls.machine now Machine.power_down u) u).state
  unfolding outcome carried Calls.machine after_settling quiet dated
  power_down-parts now u p = dated-parts Err _ u p now none (λ h _. moved-parts now u h p)

  -- a period of 0 counts as 1, and test 7 keeps it at 1,000,000 or below
  pub clocked-parts : (period : ℕ) (u : Uart H W) → period ≤ period_limit → Parts u → Parts (clocked period u)
  unfolding clocked
  clocked-parts period u h p =
      put_clock p (record { low = le-max_right _ _; high = max-le h (lit≤ tt); last = p.clock.last; wake = p.clock.wake })

  clock_change-parts : (now period : ℕ) (u : Uart H W) → Parts u
      → Parts (outcome (some now) (Calls.machine now (Machine.clock_change period) u) u).state
  unfolding outcome carried Calls.machine after_settling quiet
  clock_change-parts now period u p =
      let s : Uart H W = (settle_at now u).state in
      let t : Uart H W = (settle now (clocked period s)).state in
      dated-parts Err _ u p now _
      (λ h e. arm-parts t (settle-parts now (clocked period s) (clocked-parts period s (ltb-false _ _ (not-refused _ _ none e).0)
      (settle_at-parts now u h p))))

  cleared-parts : (u : Uart H W) → Parts u → Parts (cleared u)
  unfolding cleared cleared_line
  cleared-parts u p =
      put_line (put_rx (put_flight p (empty-flight u.tx (omega (arith, p.flight.sent)))) zero-le)
      (record { idle = λ _. refl; free = p.line.free; since = tt })

  reset-parts : (now : ℕ) (u : Uart H W) → Parts u → Parts (outcome (some now) (Calls.machine now Machine.reset u) u).state
  unfolding outcome carried Calls.machine after_settling quiet dated
  reset-parts now u p =
      let v : Uart H W = with_control (with_powered_down_at None (dated now u).control) (dated now u) in
      let s : Uart H W = (settle now v).state in
      dated-parts Err _ u p now none
      (λ h _. arm-parts (levels (cleared s)) (levels-parts (cleared s) (cleared-parts s (settle-parts now v (moved-parts now u h p)))))

  -- ---- taking what was sent

  taken-parts : (u : Uart H W) → Parts u → Parts (with_tx [] u)
  taken-parts u p =
      put_flight p (record {
        flying = p.flight.flying;
        order = p.flight.order;
        fit = p.flight.fit;
        sent = omega (arith, p.flight.flying);
      })

  module _ {L : Type 0} where
    take_tx-parts : (now : ℕ) (lent : List L) (u : Uart H W) → Parts u → Parts (outcome (some now) (Calls.take_tx now lent u) u).state
    unfolding outcome carried Calls.take_tx after_settling quiet
    take_tx-parts now lent u p =
        dated-parts (not_taken lent) _ u p now _ (λ h _. taken-parts (settle_at now u).state (settle_at-parts now u h p))

    take_written-parts : (lent : List L) (u : Uart H W) → Parts u → Parts (outcome none (Calls.take_written lent u) u).state
    unfolding outcome carried Calls.take_written quiet
    take_written-parts lent u p = unless-parts _ _ u p _ (λ _. put_flight p (empty-flight {W = W} [] zero-le))

-- ---- each call, refused or carried out

module _ {H W : Type 0} where
  pub read_placed-within : (now : ℕ) (at : Register) (u : Uart H W) → Within u
      → Within (outcome (some now) (Calls.read_placed now at u) u).state
  read_placed-within now at u = through u _ (read_placed-parts now at u)

  pub write_placed-within : (now : ℕ) (at : Register) (v : ℕ) (u : Uart H W) → Within u
      → Within (outcome (some now) (Calls.write_placed now at v u) u).state
  write_placed-within now at v u = through u _ (write_placed-parts now at v u)

  pub send-within : (now : ℕ) (b : W) (u : Uart H W) → Within u → Within (outcome (some now) (Calls.send now b u) u).state
  send-within now b u = through u _ (send-parts now b u)

  pub read-within : (now offset : ℕ) (u : Uart H W) → Within u → Within (outcome (some now) (Calls.read now offset u) u).state
  unfolding Calls.read
  read-within now offset u = read_placed-within now _ u

  pub receive-within : (now at : ℕ) (bs : List H) (u : Uart H W) → Within u
      → Within (outcome (some now) (Calls.receive now at bs u) u).state
  receive-within now at bs u = through u _ (receive-parts now at bs u)

  pub host_pending-within : (u : Uart H W) → Within u → Within (outcome none (Calls.host_pending u) u).state
  unfolding outcome carried Calls.host_pending unless quiet
  host_pending-within u w = w

  pub wake-within : (now : ℕ) (u : Uart H W) → Within u → Within (outcome (some now) (Calls.machine now Machine.wake u) u).state
  wake-within now u = through u _ (wake-parts now u)

  pub watch-within : (now : ℕ) (b : Bool) (u : Uart H W) → Within u
      → Within (outcome (some now) (Calls.machine now (Machine.watch b) u) u).state
  watch-within now b u = through u _ (watch-parts now b u)

  pub power_down-within : (now : ℕ) (u : Uart H W) → Within u → Within (outcome (some now) (Calls.machine now Machine.power_down u) u).state
  power_down-within now u = through u _ (power_down-parts now u)

  pub clock_change-within : (now period : ℕ) (u : Uart H W) → Within u
      → Within (outcome (some now) (Calls.machine now (Machine.clock_change period) u) u).state
  clock_change-within now period u = through u _ (clock_change-parts now period u)

  pub reset-within : (now : ℕ) (u : Uart H W) → Within u → Within (outcome (some now) (Calls.machine now Machine.reset u) u).state
  reset-within now u = through u _ (reset-parts now u)

  pub has_left-within : (u : Uart H W) → Within u → Within (outcome none (Calls.has_left u) u).state
  unfolding outcome carried Calls.has_left unless quiet
  has_left-within u w = w

  module _ {L : Type 0} where
    pub take_tx-within : (now : ℕ) (lent : List L) (u : Uart H W) → Within u
        → Within (outcome (some now) (Calls.take_tx now lent u) u).state
    take_tx-within now lent u = through u _ (take_tx-parts now lent u)

    pub take_written-within : (lent : List L) (u : Uart H W) → Within u → Within (outcome none (Calls.take_written lent u) u).state
    take_written-within lent u = through u _ (take_written-parts lent u)

pub write-within : {H : Type 0} (now offset v : ℕ) (u : Uart H ℕ) → Within u
    → Within (outcome (some now) (Calls.write now offset v u) u).state
unfolding Calls.write
write-within now offset v u w =
    let p : Register = register_of u.map.offsets offset in
    write-ind (λ o. Within (outcome (some now) o u).state) now p v u (λ _. send-within now (v % 256) u w)
    (λ _. write_placed-within now p v u w)
