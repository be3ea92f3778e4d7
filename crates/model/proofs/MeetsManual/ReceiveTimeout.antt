-- The receive timeout comes the manual's bit times after the last landing heard, unless a byte starts before: all that a settling finds
-- on the line is what the manual has a receiver show whose clock is on. Assumes nothing.
use Rattle.std.specs.Prelude.{◌≡◌, true, false, length, take, Some, None}
use Rattle.std.proofs.Math.Path.{refl, sym, ap, ap₂, subst}
use Rattle.std.proofs.Common.{◌∙◌, arith, true≢false, le-leb, leb-true, leb-false, ltb-false}
use Prim.Native.Nat.{ℕ, ◌≤◌, ◌<◌}
use Rattle.std.proofs.Math.Option.{Option, none, some}
use mathlib.Core.List.{List, [], ◌∷◌, ◌++◌, map, append_assoc}
use Rattle.std.proofs.lemmas.Bool.{lt-leb}
use Rattle.dates.specs.Dates
use Rattle.dates.specs.Dates.{after, later, earlier}
use Rattle.model.specs.Manual
use Rattle.model.specs.Manual.{by, reception, timeout_before}
use Rattle.model.specs.Numbers.{due_by, instant_of}
use Rattle.model.specs.Events.{Event, departure, timeout, landing, nothing}
use Rattle.model.specs.State.{Sent, Run, OnTheLine, Uart, line_of}
use Rattle.model.specs.Line.{raise_if, note_source, after_date, opened, timeout_at, time_out, frame, start, land, fate}
use Rattle.model.specs.Settle.{gone, tx_done, leave, depart, departures, passes, assert_levels, drive, levels, leveled, settings_of}
use Rattle.model.specs.Settle.{settle_to, Pass, pop_run, nothing_due, timed_out, landed, in_frame, begun, before_start, idle}
use Rattle.model.specs.Settle.{line_free, pass_on, pass}
use Rattle.model.specs.Limits.{All, cons, nil, run_dates, run_counts, Fits, Within}
use Rattle.model.proofs.Laws.Choose.{choose-ind, choose-true, choose-false}
use Rattle.model.proofs.Laws.Lists.{all_head}
use Rattle.model.proofs.Ends.Passes.{apart, After, LineQuiet, Takes, PassLaw, time_out-closes, time_out-free, land-free, pass-law}
use Rattle.model.proofs.Ends.Through.{Through, ends, goes, through, through-quiet}
use Rattle.model.proofs.Keeps.Settling.{depart-within, pass-within}
use Rattle.model.proofs.MeetsManual.Reception.{dated_bytes, first-dated, none-dated, Due, due-append}
use Rattle.model.proofs.MeetsManual.Reception.{not_yet, all-by}
use Rattle.model.proofs.Keeps.Parts.{is_heard}
use Rattle.model.specs.Names.{Date}
use Rattle.model.specs.declared.Line.{Line}
use Rattle.model.specs.declared.Frame.{Frame}
use Rattle.model.specs.declared.Settings.{Settings}
use Rattle.model.specs.declared.Fate.{Fate}

-- ---- words to say it with

-- what a receiver shows from a state of the line on: the byte on the line lands first, and opens the idle line
unfoldable pub to_show : {H : Type 0} → ℕ → ℕ → Date → ℕ → Option (OnTheLine H) → List (ℕ × H) → List (ℕ × Option H)
to_show time span idle free none bs = reception time span idle free bs
to_show time span idle free (some l) bs = (free, some l.byte) ∷ reception time span (Some free) free bs

module _ {H W : Type 0} where
  -- all that it is to show, given the time of a byte and of the timeout
  unfoldable pub shows_in : ℕ → ℕ → Uart H W → List (ℕ × Option H)
  shows_in time span u =
      to_show time span (line_of u).idle_since (line_of u).line_free_at u.receiving (dated_bytes u.host_runs u.host)

  abbrev shows : Settings → Uart H W → List (ℕ × Option H)
  shows s u = shows_in s.byte_time s.timeout_time u

  -- what events show, in order: a byte that lands, or none for a timeout
  unfoldable pub shown_in : List (Event H W) → List (ℕ × Option H)
  shown_in [] = []
  shown_in (departure at b ∷ es) = shown_in es
  shown_in (timeout at ∷ es) = (at, none) ∷ shown_in es
  shown_in (landing at b f ∷ es) = (at, some b) ∷ shown_in es
  shown_in (nothing at ∷ es) = shown_in es

  first-shown : (e : Event H W) (es : List (Event H W)) → shown_in (e ∷ es) ≡ shown_in (e ∷ []) ++ shown_in es
  unfolding shown_in
  first-shown (departure at b) es = refl
  first-shown (timeout at) es = refl
  first-shown (landing at b f) es = refl
  first-shown (nothing at) es = refl

-- ---- the line

-- a timeout that is due has its date
out-now : {H : Type 0} (s : Settings) (date : ℕ) (d : Date) → due_by date (after_date s.timeout_time d) ≡ true
    → Manual.timeout {B = H} s.timeout_time d ≡ (instant_of (after_date s.timeout_time d), none) ∷ []
unfolding Manual.timeout after_date due_by instant_of
out-now s date None h = absurd (true≢false (sym h))
out-now s date (Some i) h = refl

out-before : {H : Type 0} (s : Settings) (date at : ℕ) (d : Date) → due_by (earlier date at) (after_date s.timeout_time d) ≡ true
    → timeout_before {B = H} at s.timeout_time d ≡ (instant_of (after_date s.timeout_time d), none) ∷ []
unfolding timeout_before after_date due_by instant_of
out-before s date at None h = absurd (true≢false (sym h))
out-before s date at (Some i) h = choose-true _ _ (le-leb _ at (omega (arith, leb-true (after i s.timeout_time) (earlier date at) h)))

-- a byte that starts by the date, and no timeout at or before its start
none_before : {H : Type 0} (s : Settings) (date at : ℕ) (d : Date) → at ≤ date
    → due_by (earlier date at) (after_date s.timeout_time d) ≡ false → timeout_before {B = H} at s.timeout_time d ≡ []
unfolding timeout_before after_date due_by
none_before s date at None le h = refl
none_before s date at (Some i) le h = choose-false _ _
    (lt-leb _ at (omega (arith, leb-false (after i s.timeout_time) (earlier date at) h)))

-- a byte that was heard lands with the clock on: the idle line opens, whatever becomes of the byte
heard-opens : (s : Settings) (held : ℕ) (f : Frame) (l : Line) → f.heard ≡ true → s.rx_sclk_en ≡ true
    → (land s (fate s held f) f l).idle_since ≡ Some l.line_free_at
unfolding fate land opened raise_if note_source
heard-opens s held f l h c =
    choose-ind Opens f.heard
    (λ _. choose-ind Opens s.rx_sclk_en
    (λ _. choose-ind Opens s.rxfifo_rst (λ _. refl) (λ _. choose-ind Opens _ (λ _. refl) (λ _. refl)))
    (λ e. absurd (true≢false (sym c ∙ e))))
    (λ e. absurd (true≢false (sym h ∙ e)))
  where
    Opens : Fate → Type 0
    Opens x = (land s x f l).idle_since ≡ Some l.line_free_at

-- ---- what lies after a date

module _ {H : Type 0} (date span : ℕ) where
  idle-later : (d : Date) → After date (after_date span d) → by date (Manual.timeout {B = H} span d) ≡ []
  unfolding Manual.timeout after_date by
  idle-later None a = refl
  idle-later (Some i) a = not_yet date (after i span) none [] a

  start-later : (at lands : ℕ) (d : Date) (b : H) (rest : List (ℕ × Option H)) → After date (after_date span d) → date < lands
      → by date (timeout_before at span d ++ (lands, some b) ∷ rest) ≡ []
  unfolding timeout_before after_date
  start-later at lands None b rest a h = not_yet date lands (some b) rest h
  start-later at lands (Some i) b rest a h =
      choose-ind (λ (l : List (ℕ × Option H)). by date (l ++ (lands, some b) ∷ rest) ≡ []) _
      (λ _. not_yet date (after i span) none _ a) (λ _. not_yet date lands (some b) rest h)

-- ---- one pass

-- a byte on the line was heard as it started, and so no idle line is open beside it
pub record Heard {H W : Type 0} (u : Uart H W) : Type 0 where
  pub heard : (l : OnTheLine H) → u.receiving ≡ some l → l.frame.heard ≡ true
  pub idle : (l : OnTheLine H) → u.receiving ≡ some l → (line_of u).idle_since ≡ None

module _ {H W : Type 0} (s : Settings) (date : ℕ) (clock : s.rx_sclk_en ≡ true) where
  record Shows (u : Uart H W) (p : Pass H W) : Type 0 where
    same : shows s u ≡ shown_in (p.event ∷ []) ++ shows s p.state
    heard : Heard p.state

  no_byte : (u : Uart H W) → u.receiving ≡ none → Heard u
  no_byte u n = record { heard = λ l e. apart (cc); idle = λ l e. apart (cc) }

  -- ---- a byte on the line

  closed-due : (u : Uart H W) → (line_of u).idle_since ≡ None → due_by date (timeout_at s (line_of u)) ≡ false
  unfolding timeout_at after_date due_by
  closed-due u e = ap (λ (d : Date). due_by date (after_date s.timeout_time d)) e

  lands-shows : (l : OnTheLine H) (u : Uart H W) → u.receiving ≡ some l → l.frame.heard ≡ true
      → Shows u (landed s (fate s (length u.rx) l.frame) l u)
  unfolding landed shows_in shown_in to_show
  lands-shows l u e h =
      let free : ℕ = (line_of u).line_free_at in
      let bs : List (ℕ × H) = dated_bytes u.host_runs u.host in
      let f : Fate = fate s (length u.rx) l.frame in
      record {
        same =
            ap (λ o. to_show s.byte_time s.timeout_time (line_of u).idle_since free o bs) e
            ∙ ap₂ (λ d n. (free, some l.byte) ∷ reception s.byte_time s.timeout_time d n bs)
            (sym (heard-opens s (length u.rx) l.frame (line_of u) h clock)) (sym (land-free s f l.frame (line_of u)));
        heard = no_byte _ refl;
      }

  in_frame-shows : (l : OnTheLine H) (u : Uart H W) → u.receiving ≡ some l → Heard u → Shows u (in_frame s date l u)
  unfolding in_frame nothing_due shown_in
  in_frame-shows l u e h =
      choose-ind (Shows u) _ (λ t. absurd (true≢false (sym t ∙ closed-due u (h.idle l e))))
      (λ _. choose-ind (Shows u) _ (λ _. record { same = refl; heard = h }) (λ _. lands-shows l u e (h.heard l e)))

  -- ---- no byte on the line

  -- a timeout: what was to be shown begins with it
  out-shows : (u : Uart H W) (at : ℕ) (rest : List (ℕ × Option H)) → u.receiving ≡ none → at ≡ instant_of (timeout_at s (line_of u))
      → shows s u ≡ (at, none) ∷ rest
      → reception s.byte_time s.timeout_time None (line_of u).line_free_at (dated_bytes u.host_runs u.host) ≡ rest
      → Shows u (timed_out s u)
  unfolding timed_out shows_in shown_in to_show
  out-shows u at rest n ea first later =
      let bs : List (ℕ × H) = dated_bytes u.host_runs u.host in
      record {
        same =
            first ∙ ap₂ (λ t r. (t, none) ∷ r) ea
            (sym later
            ∙ sym (ap (λ o. to_show s.byte_time s.timeout_time (time_out s (length u.rx) (line_of u)).idle_since
            (time_out s (length u.rx) (line_of u)).line_free_at o bs) n
            ∙ ap₂ (λ d k. reception s.byte_time s.timeout_time d k bs) (time_out-closes s (length u.rx) (line_of u))
            (time_out-free s (length u.rx) (line_of u))));
        heard = no_byte _ n;
      }

  free-shows : (u : Uart H W) → u.receiving ≡ none → (bs : List (ℕ × H)) → dated_bytes u.host_runs u.host ≡ bs
      → shows s u ≡ reception s.byte_time s.timeout_time (line_of u).idle_since (line_of u).line_free_at bs
  unfolding shows_in to_show
  free-shows u n bs e =
      ap₂ (λ o x. to_show s.byte_time s.timeout_time (line_of u).idle_since (line_of u).line_free_at o x) n e

  idle-shows : (u : Uart H W) → u.receiving ≡ none → dated_bytes u.host_runs u.host ≡ [] → Shows u (idle s date u)
  unfolding idle nothing_due shown_in reception Manual.timeout timeout_at
  idle-shows u n e =
      choose-ind (Shows u) _
      (λ t. out-shows u _ [] n refl (free-shows u n [] e ∙ out-now s date (line_of u).idle_since t)
      (ap (reception s.byte_time s.timeout_time None (line_of u).line_free_at) e))
      (λ _. record { same = refl; heard = no_byte u n })

  module _ (u : Uart H W) (n : u.receiving ≡ none) (r : Run) (rs : List Run) (b : H) (bs : List H) (one : 1 ≤ r.count)
      (er : u.host_runs ≡ r ∷ rs) (eh : u.host ≡ b ∷ bs) where
    abbrev start_date : ℕ
    start_date = later r.date (line_of u).line_free_at

    abbrev lands : ℕ
    lands = after start_date s.byte_time

    abbrev then : List (ℕ × Option H)
    then =
        (lands, some b) ∷ reception s.byte_time s.timeout_time (Some lands) lands (dated_bytes (pop_run (r ∷ rs)) bs)

    dated : dated_bytes u.host_runs u.host ≡ (r.date, b) ∷ dated_bytes (pop_run (r ∷ rs)) bs
    dated = ap₂ dated_bytes er eh ∙ first-dated r rs b bs one

    begun-shows : shows s (begun s start_date b bs u) ≡ then
    unfolding shows_in begun to_show start
    begun-shows =
        ap (λ x. (lands, some b) ∷ reception s.byte_time s.timeout_time (Some lands) lands (dated_bytes (pop_run x) bs)) er

    begun-heard : Heard (begun s start_date b bs u)
    unfolding begun start frame note_source
    begun-heard = record {
      heard = λ l e. sym (ap is_heard e) ∙ clock;
      idle = λ l e. ap (λ (x : Line). x.idle_since) (choose-true _ _ clock);
    }

    first-shows : shows s u ≡ timeout_before start_date s.timeout_time (line_of u).idle_since ++ then
    unfolding reception
    first-shows = free-shows u n _ dated

    before_start-shows : Shows u (before_start s date start_date b bs u)
    unfolding before_start nothing_due shown_in reception timeout_before timeout_at begun
    before_start-shows =
        choose-ind (Shows u) _
        (λ t. out-shows u _ then n refl (first-shows ∙ ap (λ x. x ++ then) (out-before s date start_date (line_of u).idle_since t))
        (ap (reception s.byte_time s.timeout_time None (line_of u).line_free_at) dated))
        (λ t. choose-ind (Shows u) _ (λ _. record { same = refl; heard = no_byte u n })
        (λ f.
        let p = in_frame-shows (record { byte = b; frame = frame s }) (begun s start_date b bs u) refl begun-heard in
        record {
          same =
              first-shows ∙ ap (λ x. x ++ then) (none_before s date start_date (line_of u).idle_since (ltb-false date start_date f) t)
              ∙ sym begun-shows ∙ p.same;
          heard = p.heard;
        }))

  line_free-shows : (u : Uart H W) → u.receiving ≡ none → All (λ k. 1 ≤ k) (run_counts u.host_runs) → (rs : List Run) (bs : List H)
      → u.host_runs ≡ rs → u.host ≡ bs → Shows u (line_free s date rs bs u)
  unfolding line_free dated_bytes
  line_free-shows u n c [] bs er eh = idle-shows u n (ap₂ dated_bytes er eh)
  line_free-shows u n c (r ∷ rs) [] er eh = idle-shows u n (ap₂ dated_bytes er eh ∙ none-dated (r ∷ rs))
  line_free-shows u n c (r ∷ rs) (b ∷ bs) er eh =
      before_start-shows u n r rs b bs (all_head (subst (λ x. All (λ k. 1 ≤ k) (run_counts x)) er c)) er eh

  pass_on-shows : (u : Uart H W) → Heard u → All (λ k. 1 ≤ k) (run_counts u.host_runs) → (o : Option (OnTheLine H)) → u.receiving ≡ o
      → Shows u (pass_on s date o u)
  unfolding pass_on
  pass_on-shows u h c none e = line_free-shows u e c u.host_runs u.host refl refl
  pass_on-shows u h c (some l) e = in_frame-shows l u e h

  pass-shows : (u : Uart H W) → Heard u → Within u → Shows u (pass s date u)
  unfolding pass
  pass-shows u h w = pass_on-shows u h w.run_count u.receiving refl

  -- ---- all passes, cut at the date

  event-due : (u v : Uart H W) (e : Event H W) → Takes s date u e v → Due date (shown_in (e ∷ []))
  unfolding shown_in
  event-due u v (departure at b) t = nil
  event-due u v (timeout at) t = cons t.due nil
  event-due u v (landing at b f) t = cons t.due nil
  event-due u v (nothing at) t = nil

  -- nothing that the line has still to show comes by the date
  waiting-later : (u : Uart H W) → Within u → LineQuiet s date u → u.receiving ≡ none → (rs : List Run) (bs : List H) → u.host_runs ≡ rs
      → u.host ≡ bs
      → by date (reception s.byte_time s.timeout_time (line_of u).idle_since (line_of u).line_free_at (dated_bytes rs bs)) ≡ []
  unfolding reception dated_bytes timeout_at
  waiting-later u w q n [] bs er eh = idle-later date s.timeout_time (line_of u).idle_since q.timeout
  waiting-later u w q n (r ∷ rs) [] er eh =
      ap (λ l. by date (reception s.byte_time s.timeout_time (line_of u).idle_since (line_of u).line_free_at l))
      (none-dated (r ∷ rs))
      ∙ idle-later date s.timeout_time (line_of u).idle_since q.timeout
  waiting-later u w q n (r ∷ rs) (b ∷ bs) er eh =
      let one : 1 ≤ r.count = all_head (subst (λ x. All (λ k. 1 ≤ k) (run_counts x)) er w.run_count) in
      let fits : r.date ≤ Dates.last = all_head (subst (λ x. All Fits (run_dates x)) er w.runs_fit) in
      ap (λ l. by date (reception s.byte_time s.timeout_time (line_of u).idle_since (line_of u).line_free_at l))
      (first-dated r rs b bs one)
      ∙ start-later date s.timeout_time _ _ (line_of u).idle_since b _ q.timeout
      (omega (arith, q.start n r rs b bs er eh, fits, w.line_fits))

  line-later : (u : Uart H W) → Within u → LineQuiet s date u → (o : Option (OnTheLine H)) → u.receiving ≡ o
      → by date (to_show s.byte_time s.timeout_time (line_of u).idle_since (line_of u).line_free_at o
      (dated_bytes u.host_runs u.host)) ≡ []
  unfolding to_show
  line-later u w q none e = waiting-later u w q e u.host_runs u.host refl refl
  line-later u w q (some l) e = not_yet date _ (some l.byte) _ (q.landing l e)

  -- from `u` passes found `es` and led to `v`: what they show is all that the manual has shown by the date, and the rest is still to come
  pub record Showing (u : Uart H W) (es : List (Event H W)) (v : Uart H W) : Type 0 where
    pub shown : shown_in es ≡ by date (shows s u)
    pub rest : shows s u ≡ shown_in es ++ shows s v

  record Met (u : Uart H W) (es : List (Event H W)) (v : Uart H W) : Type 0 where
    whole : shows s u ≡ shown_in es ++ shows s v
    due : Due date (shown_in es)
    later : by date (shows s v) ≡ []

  through_met : {u v : Uart H W} {es : List (Event H W)} → Through s date u es v → Heard u → Within u → Met u es v
  unfolding shows_in
  through_met (ends {u = u} {v = v} {e = x} e g) h w =
      let law : PassLaw s date u (record { event = x; state = v }) = subst (PassLaw s date u) e (pass-law s date u) in
      let within : Within v = subst (λ p. Within p.state) e (pass-within s date u w) in
      let p : Shows u (record { event = x; state = v }) = subst (Shows u) e (pass-shows u h w) in
      record {
        whole = p.same;
        due = event-due u v x law.takes;
        later = line-later v within (through-quiet s date (ends e g)) v.receiving refl;
      }
  through_met (goes {u = u} {v = v} {w = z} {e = x} {es = es} e g t) h w =
      let law : PassLaw s date u (record { event = x; state = v }) = subst (PassLaw s date u) e (pass-law s date u) in
      let p : Shows u (record { event = x; state = v }) = subst (Shows u) e (pass-shows u h w) in
      let rest : Met v es z = through_met t p.heard (subst (λ y. Within y.state) e (pass-within s date u w)) in
      record {
        whole =
            p.same ∙ ap (λ l. shown_in (x ∷ []) ++ l) rest.whole ∙ sym (append_assoc (shown_in (x ∷ [])) (shown_in es) (shows s z))
            ∙ ap (λ l. l ++ shows s z) (sym (first-shown x es));
        due =
            subst (Due date) (sym (first-shown x es))
            (due-append (shown_in (x ∷ [])) (shown_in es) (event-due u v x law.takes) rest.due);
        later = rest.later;
      }

  through-shows : {u v : Uart H W} {es : List (Event H W)} → Through s date u es v → Heard u → Within u → Showing u es v
  through-shows t h w =
      let m = through_met t h w in
      record { shown = sym (ap (by date) m.whole ∙ all-by date _ _ m.due m.later); rest = m.whole }

-- ---- a settling

module _ {H W : Type 0} where
  none-shown : (ss : List (Sent W)) (es : List (Event H W)) → shown_in (map (λ s. departure s.gone_at s.byte) ss ++ es) ≡ shown_in es
  unfolding shown_in
  none-shown [] es = refl
  none-shown (s ∷ ss) es = none-shown ss es

  -- what a settling to a date finds on the line is what the manual has a receiver with its clock on show by then
  pub settling-shows : (date : ℕ) (u : Uart H W) → Within u → (clock : (settings_of u).rx_sclk_en ≡ true)
      → ((l : OnTheLine H) → u.receiving ≡ some l → l.frame.heard ≡ true)
      → Showing (settings_of u) date clock u (settle_to date u).events (settle_to date u).state
  unfolding settle_to leveled levels drive assert_levels raise_if departures depart leave tx_done shows_in
  settling-shows date u w clock heard =
      let s : Settings = settings_of u in
      let t = passes s date (depart date u) in
      let h : Heard (depart date u) = record { heard = heard; idle = λ l e. w.idle_line l e (heard l e) } in
      let r = through-shows s date clock (through s date (depart date u)) h (depart-within date u w) in
      let same = none-shown (take (gone date u.in_flight) u.in_flight) t.events in
      record { shown = same ∙ r.shown; rest = r.rest ∙ ap (λ l. l ++ shows s t.state) (sym same) }
