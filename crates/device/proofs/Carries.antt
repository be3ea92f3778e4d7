-- One pass over the slots: what the control decides, carried out by a store at the back of the receive FIFO, one at the first
-- run's count, and three cursors that go on where a test says so, is the definition's pass. Assumes nothing.
use Rattle.std.specs.Prelude.{◌≡◌, Bool, ℕ, ◌-◌, ◌<◌, ◌≤◌, leb, length, take, set, Some, None}
use Rattle.std.proofs.Math.Path.{refl, ap, sym}
use Rattle.std.proofs.Common.{◌∙◌, ⊎_elim, lt-ltb, le-ltb, length-set}
use Rattle.std.proofs.Math.Bool.{true, false}
use Rattle.std.proofs.Math.Option.{Option}
use mathlib.Core.List.{List, [], ◌∷◌, ◌++◌, append-nil}
use native.Mathlib.Omega.{arith}
use Rattle.std.proofs.Math.ListN.{drop, get_or}
use Rattle.model.specs.State
use Rattle.model.specs.State.{Run, OnTheLine}
use Rattle.model.specs.Setters.{with_rx, with_receiving, with_host, with_line_of}
use Rattle.model.specs.Numbers.{choose}
use Rattle.model.proofs.Laws.Choose.{choose-true, choose-false}
use Rattle.model.specs.Settle.{pop_run}
use Rattle.model.specs.Names.{Date}
use Rattle.model.specs.declared.Line.{Line}
use Rattle.model.specs.declared.Settings.{Settings}
use Rattle.line.specs.declared.Found.{Found}
use Rattle.queue.specs.Slots.{side}
use Rattle.queue.specs.Cursors.{Held, slot_of, back_of, pushed_if, popped_if, one_if}
use Rattle.queue.specs.Cursors
use Rattle.queue.specs.Laws.{pop-elems, first-elems, elems-length, back_low}
use Rattle.queue.specs.Stores
use Rattle.queue.specs.Stores.{Stored, set-stored, both, same-stored, first-stored}
use Rattle.queue.specs.Guards.{push-if-held, pop-if-held, push-if-elems, pop-if-elems}
use Rattle.queue.specs.declared.Cursor.{Cursor}
use Rattle.line.specs.Names.{Receiving}
use Rattle.line.specs.declared.Move.{Move}
use Rattle.line.specs.Moves.{move}
use Rattle.line.specs.Seen.{Seen}
use Rattle.line.specs.Applied.{line_byte, subject, marked, is_stored, stored_into, drop_if, pop_run_if, applied, pass-applied}
use Rattle.device.specs.Never.{never}
use Rattle.device.specs.Holds.{run_in, host_of, runs_of, rx_of, on_the_line}
use Rattle.device.specs.Waits.{waiting_at}
use Rattle.device.specs.Receives.{num, spent, Fit, with, Passes}
use Rattle.device.specs.Carries.{mark_of, waiting-of}
use Rattle.device.specs.Allows.{is_on, is_set, Allows, allows}
use Rattle.device.specs.declared.pass.Reception.{Reception}

waits-yes : (host runs date : ℕ) → is_set (waiting_at host runs date) ≡ true → (0 < host) × (0 < runs)
unfolding waiting_at is_set choose
waits-yes host runs date e =
    ⊎_elim
    (λ (p : 0 < host).
    ⊎_elim (λ (q : 0 < runs). (p, q)) (λ (q : runs ≤ 0). never (rw (lt-ltb 0 host p, le-ltb 0 runs q) at e)) (side 0 runs))
    (λ (p : host ≤ 0). never (rw (le-ltb 0 host p) at e))
    (side 0 host)

-- ---- the byte that a pass is about

subject-of : (t : Bool) (hosts : List ℕ) (h : Cursor) (r : Receiving) (b : ℕ) → Held 1024 h → (t ≡ true → 0 < h.count)
    → (t ≡ false → is_on r ≡ true)
    → subject t (host_of hosts h) (on_the_line r b) ≡ choose t (get_or hosts h.start 0) b ∷ []
unfolding subject line_byte on_the_line is_on choose
subject-of true hosts h r b hh w k = ap (take 1) (first-elems (slot_of hosts 0) 1024 h hh (w refl))
subject-of false hosts h None b hh w k = never (k refl)
subject-of false hosts h (Some f) b hh w k = refl

marked-of : (r : Receiving) (bs : List ℕ) (b : ℕ) → (is_on r ≡ true → bs ≡ b ∷ []) → marked r bs ≡ on_the_line r b
unfolding marked on_the_line is_on
marked-of None bs b k = refl
marked-of (Some f) bs b k = ap (marked (Some f)) (k refl)

stored_of : (t : Bool) (bs held : List ℕ) (b : ℕ) → (t ≡ true → bs ≡ b ∷ []) → stored_into t bs held ≡ held ++ one_if t b
unfolding stored_into one_if
stored_of true bs held b k = ap (λ (l : List ℕ). held ++ l) (k refl)
stored_of false bs held b k = sym (append-nil held)

drop-same : {A : Type 0} (t : Bool) (l : List A) → Cursors.drop_if t l ≡ drop_if t l
unfolding Cursors.drop_if drop_if
drop-same true l = refl
drop-same false l = refl

-- ---- the runs

module _ (dates counts : List ℕ) (c : Cursor) (h : Held 64 c) (long : length counts ≡ 64) where
  -- a store at the first run's count, in the slots of the runs
  lowered : (n : ℕ) → Stored c.start (record { date = get_or dates c.start 0; count = n }) (run_in dates counts)
      (run_in dates (set counts c.start n))
  lowered n =
      both {C = Run} (λ d k. record { date = d; count = k }) c.start (Stores.kept c.start (slot_of dates 0))
      (set-stored counts 0 c.start n (rw long h.low))

  -- a run goes with its last byte, and else has one less
  first_run : 0 < c.count → (t : Bool) → leb (get_or counts c.start 0) 1 ≡ t
      → runs_of dates (set counts c.start (get_or counts c.start 0 - 1)) (popped_if 64 t c) ≡ pop_run (runs_of dates counts c)
  unfolding popped_if pop_run choose
  first_run pos true e =
      pop-elems (run_in dates (set counts c.start (get_or counts c.start 0 - 1))) 64 c h
      ∙ ap (drop 1) (first-stored (run_in dates counts) _ 64 c h _ pos (lowered (get_or counts c.start 0 - 1)))
      ∙ ap (drop 1) (first-elems (run_in dates counts) 64 c h pos)
      ∙ sym (ap pop_run (first-elems (run_in dates counts) 64 c h pos) ∙ rw (pop_run, e))
  first_run pos false e =
      first-stored (run_in dates counts) _ 64 c h _ pos (lowered (get_or counts c.start 0 - 1))
      ∙ ap (λ (l : List Run). record { date = get_or dates c.start 0; count = get_or counts c.start 0 - 1 } ∷ drop 1 l)
      (first-elems (run_in dates counts) 64 c h pos)
      ∙ sym (ap pop_run (first-elems (run_in dates counts) 64 c h pos) ∙ rw (pop_run, e))

  runs_of-carried : (t : Bool) → (t ≡ true → 0 < c.count)
      → runs_of dates (set counts c.start (get_or counts c.start 0 - num t)) (popped_if 64 (spent t (get_or counts c.start 0)) c)
      ≡ pop_run_if t (runs_of dates counts c)
  unfolding spent pop_run_if popped_if
  runs_of-carried true w = first_run (w refl) (leb (get_or counts c.start 0) 1) refl
  runs_of-carried false w =
      let z : get_or counts c.start 0 - 0 ≡ get_or counts c.start 0 = omega arith in
      rw z (same-stored (run_in dates counts) (run_in dates (set counts c.start (get_or counts c.start 0))) 64 c c.start
      (lowered (get_or counts c.start 0)))

-- ---- one pass

-- what the control decides
abbrev pub move_of : Settings → ℕ → Reception → List ℕ → Move
move_of s date at dates =
    move s at.rx.count date (waiting_at at.host.count at.runs.count (get_or dates at.runs.start 0)) at.receiving at.line

-- the byte that a pass is about
abbrev pub byte_of : Move → Reception → List ℕ → ℕ
byte_of m at hosts = choose m.started (get_or hosts at.host.start 0) at.byte

-- the reception once a move is carried out, the counts of the runs and the receive FIFO
abbrev pub carried : Move → Reception → List ℕ → List ℕ → Reception
carried m at hosts counts = record {
  line = m.line;
  receiving = m.receiving;
  byte = byte_of m at hosts;
  host = popped_if 1024 m.started at.host;
  runs = popped_if 64 (spent m.started (get_or counts at.runs.start 0)) at.runs;
  rx = pushed_if (is_stored m.found) at.rx;
}

abbrev pub counts_of : Move → Reception → List ℕ → List ℕ
counts_of m at counts = set counts at.runs.start (get_or counts at.runs.start 0 - num m.started)

abbrev pub rxs_of : Move → Reception → List ℕ → List ℕ → List ℕ
rxs_of m at hosts rxs = set rxs (back_of 128 at.rx) (choose (is_stored m.found) (byte_of m at hosts) (get_or rxs (back_of 128 at.rx) 0))

same-pass : (u : State.Uart ℕ ℕ) {f : Found} {l : Line} {rx rx' host host' : List ℕ} {runs runs' : List Run} {on on' : Option (OnTheLine ℕ)}
    → rx ≡ rx' → on ≡ on' → host ≡ host' → runs ≡ runs'
    → ◌≡◌ {A = Seen ℕ ℕ} (record { found = f; state = with_rx rx (with_receiving on (with_host host runs (with_line_of l u))) })
    (record { found = f; state = with_rx rx' (with_receiving on' (with_host host' runs' (with_line_of l u))) })
same-pass u a b c d = rw (a, b, c, d)

module _ (s : Settings) (date : ℕ) (at : Reception) (hosts dates counts rxs : List ℕ) (fit : Fit at hosts dates counts rxs) where
  m : Move
  m = move_of s date at dates

  allowed : Allows at.rx.count (waiting_at at.host.count at.runs.count (get_or dates at.runs.start 0)) at.receiving m
  unfolding m
  allowed = allows s at.rx.count date _ at.receiving at.line

  starts : m.started ≡ true → (0 < at.host.count) × (0 < at.runs.count)
  starts e = waits-yes _ _ _ (allowed.starts e)

  -- where a byte is on the line after the pass, or is stored in it, there was one
  about : (t : Bool) → m.started ≡ t → (t ≡ false → is_on at.receiving ≡ true)
      → subject t (host_of hosts at.host) (on_the_line at.receiving at.byte)
      ≡ choose t (get_or hosts at.host.start 0) at.byte ∷ []
  about t e k = subject-of t hosts at.host at.receiving at.byte fit.host (λ y. (starts (e ∙ y)).0) k

  fit-after : Fit (carried m at hosts counts) hosts dates (counts_of m at counts) (rxs_of m at hosts rxs)
  fit-after = record {
    host = pop-if-held 1024 at.host fit.host m.started;
    runs = pop-if-held 64 at.runs fit.runs _;
    rx = push-if-held 128 at.rx fit.rx (is_stored m.found) allowed.stores;
    host_slots = fit.host_slots;
    run_date_slots = fit.run_date_slots;
    run_count_slots = length-set counts _ _ ∙ fit.run_count_slots;
    rx_slots = length-set rxs _ _ ∙ fit.rx_slots;
  }

  rx-after : stored_into (is_stored m.found) (subject m.started (host_of hosts at.host) (on_the_line at.receiving at.byte))
      (rx_of rxs at.rx)
      ≡ rx_of (rxs_of m at hosts rxs) (pushed_if (is_stored m.found) at.rx)
  rx-after =
      stored_of (is_stored m.found) _ (rx_of rxs at.rx) (byte_of m at hosts) (λ e. about m.started refl (λ k. allowed.holds k e))
      ∙ sym (push-if-elems (slot_of rxs 0) 128 at.rx fit.rx (is_stored m.found) (slot_of (rxs_of m at hosts rxs) 0)
      (byte_of m at hosts) _
      (λ e. (allowed.stores e, choose-true _ _ e)) (λ e. choose-false _ _ e)
      (set-stored rxs 0 (back_of 128 at.rx) _ (rw fit.rx_slots (back_low 128 at.rx fit.rx))))

  applied-law : (u : State.Uart ℕ ℕ) → ◌≡◌ {A = Seen ℕ ℕ} (applied (with at hosts dates counts rxs u) m)
      (record { found = m.found; state = with (carried m at hosts counts) hosts dates (counts_of m at counts) (rxs_of m at hosts rxs) u })
  unfolding applied
  applied-law u =
      same-pass (with at hosts dates counts rxs u) rx-after
      (marked-of m.receiving _ _ (λ e. about m.started refl (λ k. allowed.keeps k e)))
      (sym (pop-if-elems (slot_of hosts 0) 1024 at.host fit.host m.started ∙ drop-same m.started (host_of hosts at.host)))
      (sym (runs_of-carried dates counts at.runs fit.runs fit.run_count_slots m.started (λ e. (starts e).1)))

  pass-law : Passes s date at hosts dates counts rxs (carried (move_of s date at dates) at hosts counts)
      (counts_of (move_of s date at dates) at counts)
      (rxs_of (move_of s date at dates) at hosts rxs) (move_of s date at dates).found
  unfolding m
  pass-law = record {
    fit = fit-after;
    one = λ u.
        pass-applied s date (with at hosts dates counts rxs u)
        ∙ ap (applied (with at hosts dates counts rxs u))
        (given (elems-length (slot_of rxs 0) 128 at.rx) (waiting-of hosts dates counts at.host at.runs fit.host fit.runs)
        (mark_of at.receiving at.byte))
        ∙ applied-law u;
  }
    where
      given : {n n' : ℕ} {w w' : Date} {r r' : Receiving} → n ≡ n' → w ≡ w' → r ≡ r'
          → move s n date w r at.line ≡ move s n' date w' r' at.line
      given a b c = rw (a, b, c)

  -- the same, part by part as the code has them
  pub assembled : {w : Date} {m : Move} {st sp : Bool} {b i y k : ℕ} {h r x : Cursor}
      → w ≡ waiting_at at.host.count at.runs.count (get_or dates at.runs.start 0)
      → m ≡ move s at.rx.count date w at.receiving at.line
      → st ≡ is_stored m.found → b ≡ choose m.started (get_or hosts at.host.start 0) at.byte
      → i ≡ back_of 128 at.rx → y ≡ choose st b (get_or rxs i 0) → k ≡ get_or counts at.runs.start 0 - num m.started
      → h ≡ popped_if 1024 m.started at.host → sp ≡ spent m.started (get_or counts at.runs.start 0)
      → r ≡ popped_if 64 sp at.runs
      → x ≡ pushed_if st at.rx
      → Passes s date at hosts dates counts rxs (record { line = m.line; receiving = m.receiving; byte = b; host = h; runs = r; rx = x })
      (set counts at.runs.start k) (set rxs i y) m.found
  assembled ew em es eb ei ey ek eh esp er ex = rw (ex, er, esp, eh, ek, ey, ei, eb, es, em, ew) pass-law
