-- What one pass does: it rests because nothing is due, or it takes one timeout, or it takes one byte off the line.
-- Assumes nothing.
use Rattle.std.specs.Prelude.{◌≡◌, ℕ, ◌≤◌, ◌<◌, true, false, length, Some, None}
use Rattle.std.proofs.Math.Path.{refl, sym, ap, ap₂}
use Rattle.std.proofs.Common.{◌∙◌, arith}
use Rattle.std.proofs.lemmas.Bool.{false≢true}
use Rattle.std.proofs.Math.Option.{Option, none, some}
use mathlib.Core.List.{List, [], ◌∷◌, ◌++◌}
use borrow.Author.Tests.{ltb-true, ltb-false, leb-true, leb-false}
use Rattle.dates.specs.Dates.{later, earlier}
use Rattle.model.specs.Numbers.{due_by, instant_of}
use Rattle.model.specs.State.{Run, OnTheLine, Uart, line_of, line_bytes}
use Rattle.model.specs.Setters.{with_line}
use Rattle.model.specs.Events.{Event, departure, timeout, landing, nothing}
use Rattle.model.specs.Line
use Rattle.model.specs.Line.{raise_if, note_source, after_date, timeout_at, time_out, frame, start, land}
use Rattle.model.specs.Settle.{Pass, received, nothing_due, timed_out, landed, in_frame, begun, before_start, idle, line_free, pass_on}
use Rattle.model.specs.Settle.{pass}
use Rattle.model.specs.Names.{Date}
use Rattle.model.specs.declared.Line.{Line}
use Rattle.model.specs.declared.Frame.{Frame}
use Rattle.model.specs.declared.Settings.{Settings}
use Rattle.model.specs.declared.Fate.{Fate}
use Rattle.model.specs.declared.Fate.TheVariants.{Stored, Overflowed, Cleared, ClockOff, Unheard}
use Rattle.model.proofs.Laws.Choose.{choose-ind}

-- hypotheses that cannot hold together give anything
pub apart : {X : Type 0} → ◌≡◌ {A = ℕ} 0 1 → X
apart e = absurd (let z : ◌≡◌ {A = ℕ} 0 1 = e in omega arith)

-- ---- words to say it with

-- a date, if there is one, lies after `date`: it is not due
abbrev pub After : ℕ → Date → Type 0
After date None = Unit {0}
After date (Some t) = date < t

-- there is a date, and it is due
pub record DueAt (date : ℕ) (d : Date) : Type 0 where
  pub at : ℕ
  pub is : d ≡ Some at
  pub due : at ≤ date

-- the frame of the byte on the line, or of the next to start
abbrev pub frame_of : {H : Type 0} → Settings → Option (OnTheLine H) → Frame
frame_of s none = frame s
frame_of s (some l) = l.frame

module _ {H W : Type 0} where
  -- the pending bytes in the order in which they land: the one on the line, then the waiting ones
  abbrev pub underway : Uart H W → List H
  underway u = line_bytes u.receiving ++ u.host

  -- nothing on the line is due by `date`: no timeout, no landing, no start
  pub record LineQuiet (s : Settings) (date : ℕ) (u : Uart H W) : Type 0 where
    pub timeout : After date (timeout_at s (line_of u))
    pub landing : (l : OnTheLine H) → u.receiving ≡ some l → date < (line_of u).line_free_at
    pub start : u.receiving ≡ none → (r : Run) (rs : List Run) (b : H) (bs : List H) → u.host_runs ≡ r ∷ rs → u.host ≡ b ∷ bs
        → date < later r.date (line_of u).line_free_at

  -- what no pass touches: the map, all of the control but the line, and what is sent
  pub record Kept (u v : Uart H W) : Type 0 where
    pub map : v.map ≡ u.map
    pub control : v.control ≡ with_line (line_of v) u.control
    pub in_flight : v.in_flight ≡ u.in_flight
    pub tx : v.tx ≡ u.tx

  module _ (s : Settings) (date : ℕ) (u : Uart H W) where
    -- nothing is due. A byte may have started, and it is pending as before
    pub record Rests (v : Uart H W) : Type 0 where
      pub quiet : LineQuiet s date v
      pub pends : underway v ≡ underway u
      pub rx : v.rx ≡ u.rx

    -- one timeout, that of the open idle line, was due: that line closes, and no byte moves into the receive FIFO
    pub record TakesTimeout (at : ℕ) (v : Uart H W) : Type 0 where
      pub comes : timeout_at s (line_of u) ≡ Some at
      pub due : at ≤ date
      pub closed : (line_of v).idle_since ≡ None
      pub pends : underway v ≡ underway u
      pub rx : v.rx ≡ u.rx

    -- one byte, the first pending, comes off the line with its fate; its landing was due
    pub record TakesByte (at : ℕ) (byte : H) (f : Fate) (v : Uart H W) : Type 0 where
      pub pends : underway u ≡ byte ∷ underway v
      pub free : v.receiving ≡ none
      pub lands : (line_of v).line_free_at ≡ at
      pub due : at ≤ date
      pub fate : f ≡ Line.fate s (length u.rx) (frame_of s u.receiving)
      pub rx : v.rx ≡ received f byte u.rx

    abbrev pub Takes : Event H W → Uart H W → Type 0
    Takes (departure at b) v = ⊥
    Takes (timeout at) v = TakesTimeout at v
    Takes (landing at b f) v = TakesByte at b f v
    Takes (nothing at) v = Rests v

    pub record PassLaw (p : Pass H W) : Type 0 where
      pub kept : Kept u p.state
      pub takes : Takes p.event p.state

pub kept_trans : {H W : Type 0} {u v w : Uart H W} → Kept u v → Kept v w → Kept u w
kept_trans p q = record {
  map = q.map ∙ p.map;
  control = q.control ∙ ap (with_line _) p.control;
  in_flight = q.in_flight ∙ p.in_flight;
  tx = q.tx ∙ p.tx;
}

-- ---- dates

due-at : (date : ℕ) (d : Date) → due_by date d ≡ true → DueAt date d
unfolding due_by
due-at date None h = absurd (false≢true h)
due-at date (Some t) h = record { at = t; is = refl; due = leb-true t date h }

not-due : (date : ℕ) (d : Date) → due_by date d ≡ false → After date d
unfolding due_by
not-due date None h = tt
not-due date (Some t) h = leb-false t date h

due-later : {a b : ℕ} (d : Date) → a ≤ b → DueAt a d → DueAt b d
due-later d le h = record { at = h.at; is = h.is; due = omega arith }

before-start : (date at : ℕ) (d : Date) → date < at → After (earlier date at) d → After date d
before-start date at None lt h = tt
before-start date at (Some t) lt h = omega arith

first-date : {r r' : Run} {rs rs' : List Run} → r ∷ rs ≡ r' ∷ rs' → r.date ≡ r'.date
first-date e = cc

-- a timeout that is due after a start was so before: a start opens no idle line
start-timeout : (s : Settings) (at : ℕ) (l : Line) (date : ℕ) → DueAt date (timeout_at s (start s at l))
    → timeout_at s (start s at l) ≡ timeout_at s l
unfolding timeout_at start note_source after_date
start-timeout s at l date =
    choose-ind (λ (x : Line). DueAt date (after_date s.timeout_time x.idle_since)
    → after_date s.timeout_time x.idle_since ≡ timeout_at s l) s.rx_sclk_en
    (λ _ h. let e : None ≡ Some h.at = h.is in apart (cc)) (λ _ _. refl)

pub time_out-closes : (s : Settings) (held : ℕ) (l : Line) → (time_out s held l).idle_since ≡ None
unfolding time_out raise_if note_source
time_out-closes s held l = choose-ind (λ (x : Line). x.idle_since ≡ None) _ (λ _. refl) (λ _. refl)

-- neither a timeout nor a landing moves the date when the line is free
pub time_out-free : (s : Settings) (held : ℕ) (l : Line) → (time_out s held l).line_free_at ≡ l.line_free_at
unfolding time_out raise_if note_source
time_out-free s held l = choose-ind (λ (x : Line). x.line_free_at ≡ l.line_free_at) _ (λ _. refl) (λ _. refl)

pub land-free : (s : Settings) (f : Fate) (fr : Frame) (l : Line) → (land s f fr l).line_free_at ≡ l.line_free_at
unfolding land Line.opened raise_if note_source
land-free s Stored fr l = refl
land-free s Overflowed fr l = refl
land-free s Cleared fr l = refl
land-free s ClockOff fr l = refl
land-free s Unheard fr l = refl

-- a due timeout has its date
instant-is : (d : Date) {n : ℕ} → DueAt n d → d ≡ Some (instant_of d)
unfolding instant_of
instant-is None h = let e : None ≡ Some h.at = h.is in apart (cc)
instant-is (Some t) h = refl

instant-due : (d : Date) {n : ℕ} → DueAt n d → instant_of d ≤ n
unfolding instant_of
instant-due None h = let e : None ≡ Some h.at = h.is in apart (cc)
instant-due (Some t) h = omega (arith, h.due, ap instant_of h.is)

-- ---- one pass

module _ {H W : Type 0} (s : Settings) (date : ℕ) where
  -- as far as a pass is concerned, `v` is `u` with its next byte on the line
  record Same (u v : Uart H W) : Type 0 where
    kept : Kept u v
    pends : underway v ≡ underway u
    rx : v.rx ≡ u.rx
    timeout : DueAt date (timeout_at s (line_of v)) → timeout_at s (line_of v) ≡ timeout_at s (line_of u)

  same_refl : (u : Uart H W) → Same u u
  same_refl u =
      record { kept = record { map = refl; control = refl; in_flight = refl; tx = refl }; pends = refl; rx = refl; timeout = λ _. refl }

  module _ (u v : Uart H W) (same : Same u v) where
    timed_out-law : DueAt date (timeout_at s (line_of v)) → PassLaw s date u (timed_out s v)
    unfolding timed_out
    timed_out-law h = record {
      kept =
          record {
            map = same.kept.map;
            control = ap (with_line _) same.kept.control;
            in_flight = same.kept.in_flight;
            tx = same.kept.tx;
          };
      takes = record {
        comes = sym (same.timeout h) ∙ instant-is _ h;
        due = instant-due _ h;
        closed = time_out-closes s _ _;
        pends = same.pends;
        rx = same.rx;
      };
    }

    nothing_due-law : LineQuiet s date v → PassLaw s date u (nothing_due date v)
    unfolding nothing_due
    nothing_due-law q = record { kept = same.kept; takes = record { quiet = q; pends = same.pends; rx = same.rx } }

    module _ (l : OnTheLine H) (e : v.receiving ≡ some l) (fr : l.frame ≡ frame_of s u.receiving) where
      landed-law : (line_of v).line_free_at ≤ date → PassLaw s date u (landed s (Line.fate s (length v.rx) l.frame) l v)
      unfolding landed
      landed-law due = record {
        kept =
            record {
              map = same.kept.map;
              control = ap (with_line _) same.kept.control;
              in_flight = same.kept.in_flight;
              tx = same.kept.tx;
            };
        takes = record {
          pends = sym same.pends ∙ ap (λ r. line_bytes r ++ v.host) e;
          free = refl;
          lands = land-free s (Line.fate s (length v.rx) l.frame) l.frame (line_of v);
          due = due;
          fate = ap₂ (λ h f. Line.fate s (length h) f) same.rx fr;
          rx = ap (received _ l.byte) same.rx;
        };
      }

      in_frame-law : PassLaw s date u (in_frame s date l v)
      unfolding in_frame
      in_frame-law =
          choose-ind (PassLaw s date u) _ (λ t. timed_out-law (due-at date _ t))
          (λ t. choose-ind (PassLaw s date u) _
          (λ f. nothing_due-law (record {
            timeout = not-due date _ t;
            landing = λ _ _. ltb-true date _ f;
            start = λ n. apart (cc);
          }))
          (λ f. landed-law (ltb-false date _ f)))

  module _ (u : Uart H W) (n : u.receiving ≡ none) where
    idle-law : ((r : Run) (rs : List Run) (b : H) (bs : List H) → u.host_runs ≡ r ∷ rs → u.host ≡ b ∷ bs → ⊥)
        → PassLaw s date u (idle s date u)
    unfolding idle
    idle-law empty =
        choose-ind (PassLaw s date u) _ (λ t. timed_out-law u u (same_refl u) (due-at date _ t))
        (λ t. nothing_due-law u u (same_refl u) (record {
          timeout = not-due date _ t;
          landing = λ l e. apart (cc);
          start = λ _ r rs b bs er eh. absurd (empty r rs b bs er eh);
        }))

    begun-same : (at : ℕ) (b : H) (bs : List H) → u.host ≡ b ∷ bs → Same u (begun s at b bs u)
    unfolding begun
    begun-same at b bs eh = record {
      kept = record { map = refl; control = refl; in_flight = refl; tx = refl };
      pends = sym (ap₂ (λ r h. line_bytes r ++ h) n eh);
      rx = refl;
      timeout = start-timeout s at (line_of u) date;
    }

    before_start-law : (r : Run) (rs : List Run) (b : H) (bs : List H) → u.host_runs ≡ r ∷ rs → u.host ≡ b ∷ bs
        → PassLaw s date u (before_start s date (later r.date (line_of u).line_free_at) b bs u)
    unfolding before_start begun
    before_start-law r rs b bs er eh =
        choose-ind (PassLaw s date u) _ (λ t. timed_out-law u u (same_refl u) (due-later _ (omega arith) (due-at _ _ t)))
        (λ t. choose-ind (PassLaw s date u) _
        (λ f. nothing_due-law u u (same_refl u) (record {
          timeout = before-start date _ (timeout_at s (line_of u)) (ltb-true date _ f) (not-due _ _ t);
          landing = λ l e. apart (cc);
          start = λ _ r' rs' b' bs' er' eh'. let same : r.date ≡ r'.date = first-date (sym er ∙ er') in omega (arith, ltb-true date _ f);
        }))
        (λ f. in_frame-law u (begun s _ b bs u) (begun-same _ b bs eh) _ refl (sym (ap (frame_of s) n))))

    line_free-law : (rs : List Run) (bs : List H) → u.host_runs ≡ rs → u.host ≡ bs → PassLaw s date u (line_free s date rs bs u)
    unfolding line_free
    line_free-law [] bs er eh = idle-law (λ r rs b cs er' eh'. apart (cc))
    line_free-law (r ∷ rs) [] er eh = idle-law (λ r' rs' b bs er' eh'. apart (cc))
    line_free-law (r ∷ rs) (b ∷ bs) er eh = before_start-law r rs b bs er eh

  pass_on-law : (u : Uart H W) (r : Option (OnTheLine H)) → u.receiving ≡ r → PassLaw s date u (pass_on s date r u)
  unfolding pass_on
  pass_on-law u none e = line_free-law u e _ _ refl refl
  pass_on-law u (some l) e = in_frame-law u u (same_refl u) l e (ap (frame_of s) (sym e))

  -- every pass rests, takes one timeout or takes one byte
  pub pass-law : (u : Uart H W) → PassLaw s date u (pass s date u)
  unfolding pass
  pass-law u = pass_on-law u u.receiving refl
