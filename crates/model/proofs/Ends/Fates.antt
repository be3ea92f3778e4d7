-- What becomes of the byte that a pass takes off the line, and what is pending after a pass. Assumes nothing.
use Rattle.std.specs.Prelude.{◌≡◌, refl, ◌↔◌, ℕ, ◌+◌, ◌≤◌, ◌<◌, Bool, true, false, List, ◌++◌, length, Some, None}
use Rattle.std.proofs.Math.Path.{sym, ap}
use Rattle.std.proofs.Common.{subst, ◌∙◌, arith, true≢false, ltb-true, ltb-false, le-ltb}
use Rattle.std.proofs.Math.Option.{Option, none, some}
use Rattle.model.specs.Numbers.{choose}
use Rattle.model.specs.State.{OnTheLine, Uart, line_of}
use Rattle.model.specs.Events.{Event, departure, timeout, landing, nothing}
use Rattle.model.specs.Line.{raise_if, note_source, opened, frame, start, fate, land}
use Rattle.model.specs.Settle.{Pass, nothing_due, timed_out, landed, begun, pass, on_the_line, pending}
use Rattle.model.proofs.Laws.Choose.{choose-ind}
use Rattle.model.proofs.Laws.Cases.{pass-cases}
use Rattle.model.proofs.Ends.Passes.{apart, frame_of, underway, Takes, PassLaw, pass-law}
use Rattle.model.specs.State.{line_bytes}
use Rattle.model.specs.Names.{Date}
use Rattle.model.specs.declared.Line.{Line}
use Rattle.model.specs.declared.Frame.{Frame}
use Rattle.model.specs.declared.Settings.{Settings}
use Rattle.model.specs.declared.Fate.{Fate}
use Rattle.model.specs.declared.Fate.TheVariants.{Stored, Overflowed, Cleared, ClockOff, Unheard}

-- ---- fates

-- when a byte has its fate: `held` are the bytes in the receive FIFO as it lands
abbrev pub FateWhen : Settings → ℕ → Frame → Fate → Type 0
FateWhen s held f Unheard = f.heard ≡ false
FateWhen s held f ClockOff = (f.heard ≡ true) × (s.rx_sclk_en ≡ false)
FateWhen s held f Cleared = (f.heard ≡ true) × (s.rx_sclk_en ≡ true) × (s.rxfifo_rst ≡ true)
FateWhen s held f Stored = (f.heard ≡ true) × (s.rx_sclk_en ≡ true) × (s.rxfifo_rst ≡ false) × (held < 128)
FateWhen s held f Overflowed = (f.heard ≡ true) × (s.rx_sclk_en ≡ true) × (s.rxfifo_rst ≡ false) × (128 ≤ held)

-- the five cases exclude one another, so this says when each comes
pub fate-when : (s : Settings) (held : ℕ) (f : Frame) → FateWhen s held f (fate s held f)
unfolding fate
fate-when s held f =
    choose-ind (FateWhen s held f) _
    (λ h. choose-ind (FateWhen s held f) _
    (λ c. choose-ind (FateWhen s held f) _ (λ r. (h, c, r))
    (λ r. choose-ind (FateWhen s held f) _ (λ n. (h, c, r, ltb-true held 128 n)) (λ n. (h, c, r, ltb-false held 128 n))))
    (λ c. (h, c)))
    (λ h. h)

-- a byte overflows exactly where it was heard, the receiver's clock is on, RXFIFO_RST is clear and 128 are held
pub overflowed-exactly : (s : Settings) (held : ℕ) (f : Frame) → fate s held f ≡ Overflowed ↔ FateWhen s held f Overflowed
unfolding fate choose
overflowed-exactly s held f = (λ e. subst (FateWhen s held f) e (fate-when s held f), λ o. rw (o.0, o.1, o.2, le-ltb held 128 o.3))

-- the same of a pass: what it counts as an overflow
pub pass-overflows : {H W : Type 0} (s : Settings) (date : ℕ) (u v : Uart H W) (at : ℕ) (b : H) (f : Fate)
    → pass s date u ≡ record { event = landing at b f; state = v }
    → f ≡ Overflowed ↔ FateWhen s (length u.rx) (frame_of s u.receiving) Overflowed
pass-overflows s date u v at b f e =
    let law : PassLaw s date u (record { event = landing at b f; state = v }) = subst (PassLaw s date u) e (pass-law s date u) in
    let exact = overflowed-exactly s (length u.rx) (frame_of s u.receiving) in
    (λ o. exact.0 (sym law.takes.fate ∙ o), λ o. law.takes.fate ∙ exact.1 o)

-- ---- the idle line

-- whether a landing with this fate opens the idle line: the byte was heard, and the receiver's clock is on
unfoldable pub opens : Fate → Bool
opens Stored = true
opens Overflowed = true
opens Cleared = true
opens ClockOff = false
opens Unheard = false

land-idle : (s : Settings) (f : Fate) (fr : Frame) (l : Line)
    → (land s f fr l).idle_since ≡ choose (opens f) (Some l.line_free_at) l.idle_since
unfolding land opens opened raise_if note_source choose
land-idle s Stored fr l = refl
land-idle s Overflowed fr l = refl
land-idle s Cleared fr l = refl
land-idle s ClockOff fr l = refl
land-idle s Unheard fr l = refl

-- where a byte starts in the pass and does not open the idle line, it was not heard, and the idle line stays as it was
start-idle : (s : Settings) (at held : ℕ) (l : Line) → opens (fate s held (frame s)) ≡ false → (start s at l).idle_since ≡ l.idle_since
unfolding start frame fate note_source opens
start-idle s at held l =
    choose-ind (λ (x : Line). opens (fate s held (frame s)) ≡ false → x.idle_since ≡ l.idle_since) s.rx_sclk_en
    (λ on e. absurd (true≢false (sym (heard-opens on) ∙ e))) (λ _ _. refl)
  where
    heard-opens : s.rx_sclk_en ≡ true → opens (fate s held (frame s)) ≡ true
    heard-opens on =
        choose-ind Opens s.rx_sclk_en
        (λ _. choose-ind Opens s.rx_sclk_en
        (λ _. choose-ind Opens s.rxfifo_rst (λ _. refl) (λ _. choose-ind Opens _ (λ _. refl) (λ _. refl)))
        (λ off. absurd (true≢false (sym on ∙ off)))) (λ off. absurd (true≢false (sym on ∙ off)))
      where
        Opens : Fate → Type 0
        Opens f = opens f ≡ true

same-unless : (t : Bool) (x : Date) {y z : Date} → (t ≡ false → y ≡ z) → choose t x y ≡ choose t x z
unfolding choose
same-unless true x h = refl
same-unless false x h = h refl

-- the fate that a landing tells
unfoldable landed_fate : {H W : Type 0} → Event H W → Fate
landed_fate (departure at b) = Stored
landed_fate (timeout at) = Stored
landed_fate (landing at b f) = f
landed_fate (nothing at) = Stored

-- the idle line after a landing: it opens then, or stays as it was, by the byte's fate
unfoldable idle_by : {H W : Type 0} → Event H W → Date → Date
idle_by (departure at b) d = d
idle_by (timeout at) d = None
idle_by (landing at b f) d = choose (opens f) (Some at) d
idle_by (nothing at) d = d

module _ {H W : Type 0} (s : Settings) where
  abbrev Lands : Uart H W → Pass H W → Type 0
  Lands u p =
      (at : ℕ) (b : H) (f : Fate) → p.event ≡ landing at b f
      → (f ≡ fate s (length u.rx) (frame_of s u.receiving))
      × ((line_of p.state).idle_since ≡ choose (opens f) (Some at) (line_of u).idle_since)

  landed-lands : (u : Uart H W) (l : OnTheLine H) → u.receiving ≡ some l → Lands u (landed s (fate s (length u.rx) l.frame) l u)
  unfolding landed idle_by landed_fate
  landed-lands u l e at b f q = (
    sym (ap landed_fate q) ∙ ap (λ o. fate s (length u.rx) (frame_of s o)) (sym e),
    land-idle s (fate s (length u.rx) l.frame) l.frame (line_of u) ∙ ap (λ x. idle_by x (line_of u).idle_since) q,
  )

  begun-lands : (u : Uart H W) (at : ℕ) (c : H) (cs : List H) (p : Pass H W) → u.receiving ≡ none → Lands (begun s at c cs u) p → Lands u p
  unfolding begun
  begun-lands u at c cs p n h d b f q =
      let (which, idle) = h d b f q in (
        which ∙ ap (λ o. fate s (length u.rx) (frame_of s o)) (sym n),
        idle ∙ same-unless (opens f) (Some d) (λ o. start-idle s at (length u.rx) (line_of u) (sym (ap opens which) ∙ o)),
      )

  -- of a pass that found a landing: the idle line opens at the landing, or stays as it was, by the byte's fate
  pub pass-opens : (date : ℕ) (u : Uart H W) → Lands u (pass s date u)
  unfolding timed_out nothing_due
  pass-opens date =
      pass-cases s date Lands (λ u _ at b f q. apart (cc)) (λ u at b f q. apart (cc)) landed-lands
      (λ u r rs c cs p n _ _ h. begun-lands u _ c cs p n h)

-- ---- pending

line-count : {H : Type 0} (r : Option (OnTheLine H)) (bs : List H) → length (line_bytes r ++ bs) ≡ length bs + on_the_line r
unfolding on_the_line
line-count none bs = omega arith
line-count (some l) bs = omega arith

-- document 01's pending counts these bytes
pub pending-underway : {H W : Type 0} (u : Uart H W) → pending u ≡ length (underway u)
unfolding pending
pending-underway u = sym (line-count u.receiving u.host)

-- how many bytes a pass takes off the line
unfoldable pub landings : {H W : Type 0} → Event H W → ℕ
landings (departure at b) = 0
landings (timeout at) = 0
landings (landing at b f) = 1
landings (nothing at) = 0

-- one byte less is pending after a landing, and as many as before after a timeout or where nothing was due: no pass settles everything
pub pass-pending : {H W : Type 0} (s : Settings) (date : ℕ) (e : Event H W) (u v : Uart H W) → Takes s date u e v
    → pending u ≡ pending v + landings e
unfolding landings
pass-pending s date (departure at b) u v t = absurd t
pass-pending s date (timeout at) u v t = rw (pending-underway u, pending-underway v, t.pends) (omega arith)
pass-pending s date (landing at b f) u v t = rw (pending-underway u, pending-underway v, t.pends) (omega arith)
pass-pending s date (nothing at) u v t = rw (pending-underway u, pending-underway v, t.pends) (omega arith)
