-- Arming a held UART is the definition's: each instant from the numbers of the queues, and the wake that keeps the earliest.
-- Assumes nothing.
use Rattle.std.specs.Prelude.{◌≡◌, refl, List, [], ◌∷◌, ℕ, zero, suc, ◌-◌, ◌≤◌, ◌<◌, length, get_or, Some, None}
use Rattle.std.proofs.Common.{sym, ◌∙◌, arith}
use Rattle.std.proofs.Math.Path.{ap}
use Rattle.model.specs.Numbers.{only_if, earliest, in_cycles}
use Rattle.model.specs.State
use Rattle.model.specs.State.{Sent}
use Rattle.model.specs.Setters.{with_wake}
use Rattle.model.specs.Timing
use Rattle.model.specs.Line.{timeout_at}
use Rattle.model.specs.Settle.{empty_threshold, settings_of}
use Rattle.model.specs.Arm.{nth_gone, last_gone, below_threshold_at, instants, armed, arm_all}
use Rattle.model.specs.Arm
use Rattle.model.specs.Tests.{period_limit}
use Rattle.model.specs.Names.{Date}
use Rattle.model.specs.declared.Settings.{Settings}
use Rattle.queue.specs.Cursors.{Held, nth_of}
use Rattle.queue.specs.Laws.{elems-length, elems-nth}
use Rattle.queue.specs.declared.Cursor.{Cursor}
use Rattle.line.specs.Instants.{below_threshold, gone_below, below_at, next_landing, instants-are}
use Rattle.line.specs.Names.{Below}
use Rattle.device.specs.Holds.{Arrays, sent_at, flight_of, abs, Shape}
use Rattle.device.specs.Waits.{waiting_at}
use Rattle.device.specs.Carries.{waiting-of, mark_of}
use Rattle.device.specs.declared.Core.{Core}

-- what arming asks of a core and the dates in flight
pub record Ready (c : Core) (gone_at : List ℕ) : Type 0 where
  pub flight : Held 129 c.flight
  pub slots : length gone_at ≡ 129
  pub period : c.control.period ≤ period_limit

abbrev pub with_wake_of : Date → Core → Core
with_wake_of w c = record {
  map = c.map;
  control = with_wake w c.control;
  receiving = c.receiving;
  byte = c.byte;
  flight = c.flight;
  tx = c.tx;
  host = c.host;
  runs = c.runs;
  rx = c.rx;
}

-- the wake is armed for all instants of the definition, whatever stands in the other arrays
abbrev pub Armed : Core → List ℕ → ℕ → Date → Type 0
Armed c gone_at run_date w =
    (a : Arrays) → a.gone_at ≡ gone_at → get_or a.run_at c.runs.start 0 ≡ run_date → Held 1024 c.host → Held 64 c.runs
    → w ≡ arm_all (instants (abs c a)) c.control.wake

-- the queues stand in their slots again, and the state is the definition's
pub record Arms (c : Core) (a : Arrays) (c' : Core) : Type 0 where
  pub shape : Shape c' a
  pub same : abs c' a ≡ Arm.arm (abs c a)

-- whatever stands in the arrays that arming does not read
abbrev pub ArmsAny : Core → List ℕ → List ℕ → Core → Type 0
ArmsAny c gone_at run_at c' = (a : Arrays) → a.gone_at ≡ gone_at → a.run_at ≡ run_at → Shape c a → Arms c a c'

-- ---- when a byte in flight has gone

nth_in : {W : Type 0} (d : Sent W) (n : ℕ) (l : List (Sent W)) → n < length l → nth_gone n l ≡ Some (get_or l n d).gone_at
unfolding nth_gone
nth_in d n [] h = absurd (omega arith)
nth_in d zero (s ∷ l) h = refl
nth_in d (suc n) (s ∷ l) h = nth_in d n l (omega arith)

nth-out : {W : Type 0} (n : ℕ) (l : List (Sent W)) → length l ≤ n → nth_gone n l ≡ None
unfolding nth_gone
nth-out n [] h = refl
nth-out zero (s ∷ l) h = absurd (omega arith)
nth-out (suc n) (s ∷ l) h = nth-out n l (omega arith)

module _ (dates bytes : List ℕ) (c : Cursor) where
  count : length (flight_of dates bytes c) ≡ c.count
  count = elems-length (sent_at dates bytes) 129 c

  pub gone-in : (n : ℕ) → n < c.count → Some (get_or dates (nth_of 129 n c) 0) ≡ nth_gone n (flight_of dates bytes c)
  gone-in n h =
      let d : Sent ℕ = sent_at dates bytes 0 in
      sym (nth_in d n (flight_of dates bytes c) (omega (arith, count))
      ∙ ap (λ (s : Sent ℕ). Some s.gone_at) (elems-nth (sent_at dates bytes) 129 c n d h))

  pub gone-out : (n : ℕ) → c.count ≤ n → None ≡ nth_gone n (flight_of dates bytes c)
  gone-out n h = sym (nth-out n (flight_of dates bytes c) (omega (arith, count)))

  pub last-in : {r : Date} → r ≡ nth_gone (c.count - 1) (flight_of dates bytes c) → r ≡ last_gone (flight_of dates bytes c)
  unfolding last_gone
  last-in e = e ∙ ap (λ (n : ℕ). nth_gone (n - 1) (flight_of dates bytes c)) (sym count)

  pub last_none : c.count ≤ 0 → None ≡ last_gone (flight_of dates bytes c)
  unfolding last_gone
  last_none h = gone-out _ (omega (arith, count))

-- ---- the wake

pub armed-by : (c : Core) (a : Arrays) (gone_at : List ℕ) (run_date : ℕ) → a.gone_at ≡ gone_at → get_or a.run_at c.runs.start 0 ≡ run_date
    → Held 1024 c.host → Held 64 c.runs
    → {s : Settings} {last waits landing comes timeout below leaves first w : Date} {which : Below}
    → s ≡ Timing.settings c.control.words c.control.period → last ≡ last_gone (flight_of gone_at a.flight c.flight)
    → waits ≡ waiting_at c.host.count c.runs.count run_date
    → landing ≡ next_landing s.byte_time c.receiving waits c.control.line
    → comes ≡ timeout_at s c.control.line → timeout ≡ only_if s.rx_tout_en comes
    → which ≡ below_threshold (empty_threshold c.control.words.conf1) c.flight.count
    → below ≡ gone_below which (flight_of gone_at a.flight c.flight)
    → leaves ≡ nth_gone 0 (flight_of gone_at a.flight c.flight) → first ≡ only_if c.control.watched leaves
    → w ≡ arm_all (last ∷ landing ∷ timeout ∷ below ∷ first ∷ []) c.control.wake → w ≡ arm_all (instants (abs c a)) c.control.wake
unfolding settings_of
armed-by c a gone_at run_date ea er hh rh {s} {last} {waits} {landing} {comes} {timeout} {below} {leaves} {first} {w} {which} es el ew eg ec
    et
    ek eb en ef e =
    let u : State.Uart ℕ ℕ = abs c a in
    let flying : flight_of gone_at a.flight c.flight ≡ u.in_flight = ap (λ (l : List ℕ). flight_of l a.flight c.flight) (sym ea) in
    let mine : last ∷ landing ∷ timeout ∷ below ∷ first ∷ [] ≡ instants u =
    rw (
      instants-are u,
      waiting-of a.host a.run_at a.run_len c.host c.runs hh rh,
      er,
      mark_of c.receiving c.byte,
      elems-length (sent_at a.gone_at a.flight) 129 c.flight,
      el,
      eg,
      ew,
      et,
      ec,
      eb,
      ek,
      ef,
      en,
      es,
      flying,
    )
    in
    e ∙ ap (λ (l : List Date). arm_all l c.control.wake) mine

-- ---- the core

pub arms : (c : Core) (a : Arrays) (w : Date) → Shape c a → w ≡ arm_all (instants (abs c a)) c.control.wake → Arms c a (with_wake_of w c)
unfolding Arm.arm
arms c a w k e = record {
  shape = search;
  same = ap (λ (x : Date). abs (with_wake_of x c) a) e;
}

-- ---- one byte more in flight

-- the wake once it is armed for the instant at which the transmit FIFO falls below its threshold
abbrev pub armed_below : Date → ℕ → List (Sent ℕ) → Date
armed_below due conf1 flying = earliest due (in_cycles (below_threshold_at (empty_threshold conf1) flying))

abbrev pub wake_below : Core → Arrays → Date
wake_below c a = armed_below c.control.wake c.control.words.conf1 (abs c a).in_flight

-- whatever stands in the other arrays
abbrev pub WakesBelow : Date → ℕ → Cursor → List ℕ → Date → Type 0
WakesBelow due conf1 flight gone_at wake =
    (a : Arrays) → a.gone_at ≡ gone_at → wake ≡ armed_below due conf1 (flight_of a.gone_at a.flight flight)

pub below_by : (due : Date) (conf1 : ℕ) (flight : Cursor) (a : Arrays) {gone_at : List ℕ} → a.gone_at ≡ gone_at → {which : Below}
    {below wake : Date}
    → which ≡ below_threshold (empty_threshold conf1) flight.count → below ≡ gone_below which (flight_of gone_at a.flight flight)
    → wake ≡ armed (in_cycles below) due
    → wake ≡ armed_below due conf1 (flight_of a.gone_at a.flight flight)
below_by due conf1 flight a eg {which} {below} ew eb e =
    let flying : List (Sent ℕ) = flight_of a.gone_at a.flight flight in
    let same : below ≡ below_threshold_at (empty_threshold conf1) flying =
    eb ∙ ap (λ (l : List ℕ). gone_below which (flight_of l a.flight flight)) (sym eg)
    ∙ ap (λ (w : Below). gone_below w flying)
    (ew ∙ ap (below_threshold (empty_threshold conf1)) (sym (elems-length (sent_at a.gone_at a.flight) 129 flight)))
    ∙ sym (below_at (empty_threshold conf1) flying) in
    e ∙ ap (λ (d : Date). armed (in_cycles d) due) same
