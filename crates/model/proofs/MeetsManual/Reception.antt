-- Every host byte lands when the manual says: a frame's time after its start, which is the later of its date and the line's being
-- free. Said of all that a settling finds, from every state within the limits. Assumes nothing.
use Rattle.std.specs.Prelude.{◌≡◌, length, take, drop}
use Rattle.std.proofs.Math.Path.{refl, sym, ap, ap₂, subst}
use Rattle.std.proofs.Common.{◌∙◌, arith, le-leb, leb-false}
use Prim.Native.Nat.{ℕ, zero, suc, ◌-◌, ◌≤◌, ◌<◌}
use Rattle.std.proofs.Math.Option.{Option, none, some}
use mathlib.Core.List.{List, [], ◌∷◌, ◌++◌, map, append_assoc}
use Rattle.std.proofs.lemmas.Bool.{lt-leb}
use Rattle.dates.specs.Dates
use Rattle.dates.specs.Dates.{after, later}
use Rattle.model.specs.Manual.{landings, by}
use Rattle.model.specs.Numbers.{choose}
use Rattle.model.specs.Events.{Event, departure, timeout, landing, nothing, landings_in}
use Rattle.model.specs.State.{Run, OnTheLine, Uart, line_of}
use Rattle.model.specs.Line.{raise_if, note_source, start}
use Rattle.model.specs.Settle.{Pass, tx_done, leave, depart, departures, pop_run, nothing_due, timed_out, landed, begun, pass}
use Rattle.model.specs.Settle.{passes}
use Rattle.model.specs.Settle.{assert_levels, drive, levels, leveled, settings_of, settle_to}
use Rattle.model.specs.Limits.{All, cons, nil, run_dates, run_counts, Fits, Within}
use Rattle.model.proofs.Laws.Choose.{choose-ind, choose-true, choose-false}
use Rattle.model.proofs.Laws.Lists.{all_head}
use Rattle.model.proofs.Laws.Cases.{pass-cases}
use Rattle.model.proofs.Laws.Events.{departures-land}
use Rattle.model.proofs.Ends.Passes.{LineQuiet, Takes, PassLaw, time_out-free, land-free, pass-law}
use Rattle.model.specs.State.{line_bytes}
use Rattle.model.proofs.Ends.Through.{Through, ends, goes, through, through-quiet}
use Rattle.model.proofs.Keeps.Settling.{depart-within, pass-within}
use Rattle.model.specs.declared.Settings.{Settings}
use Rattle.model.specs.declared.Fate.{Fate}

-- ---- words to say it with

-- the waiting bytes, each with the date of its run
unfoldable pub dated_bytes : {H : Type 0} → List Run → List H → List (ℕ × H)
dated_bytes [] bs = []
dated_bytes (r ∷ rs) bs = map (λ b. (r.date, b)) (take r.count bs) ++ dated_bytes rs (drop r.count bs)

abbrev to_land : {H : Type 0} → ℕ → ℕ → Option (OnTheLine H) → List (ℕ × H) → List (ℕ × H)
to_land time free o bs = map (λ b. (free, b)) (line_bytes o) ++ landings time free bs

module _ {H W : Type 0} where
  -- all host bytes that are to land, each with its date: the one on the line when the line is free, and the waiting ones by the manual
  unfoldable pub comes : ℕ → Uart H W → List (ℕ × H)
  comes time u =
      map (λ b. ((line_of u).line_free_at, b)) (line_bytes u.receiving)
      ++ landings time (line_of u).line_free_at (dated_bytes u.host_runs u.host)

  -- those that land among events, in order
  abbrev pub arrivals_in : List (Event H W) → List (ℕ × H)
  arrivals_in es = map (λ l. (l.0, l.1)) (landings_in es)

  first-arrival : (e : Event H W) (es : List (Event H W)) → arrivals_in (e ∷ es) ≡ arrivals_in (e ∷ []) ++ arrivals_in es
  unfolding landings_in
  first-arrival (departure at b) es = refl
  first-arrival (timeout at) es = refl
  first-arrival (landing at b f) es = refl
  first-arrival (nothing at) es = refl

-- ---- one pass

-- each run has a byte or more
abbrev Counted : {H W : Type 0} → Uart H W → Type 0
Counted u = All (λ n. 1 ≤ n) (run_counts u.host_runs)

-- the first byte has the first run's date
one-dated : {H : Type 0} (date n : ℕ) (rs : List Run) (b : H) (bs : List H)
    → dated_bytes (record { date = date; count = suc n } ∷ rs) (b ∷ bs)
    ≡ (date, b) ∷ dated_bytes (pop_run (record { date = date; count = suc n } ∷ rs)) bs
unfolding dated_bytes pop_run choose
one-dated date zero rs b bs = refl
one-dated date (suc n) rs b bs =
    rw (lt-leb (suc (suc n)) 1 (omega arith))
    (ap {B = List _} (λ k. (date, b) ∷ map (λ c. (date, c)) (take k bs) ++ dated_bytes rs (drop k bs))
    (let e : suc n ≡ suc (suc n) - 1 = omega arith in e))

pub first-dated : {H : Type 0} (r : Run) (rs : List Run) (b : H) (bs : List H) → 1 ≤ r.count
    → dated_bytes (r ∷ rs) (b ∷ bs) ≡ (r.date, b) ∷ dated_bytes (pop_run (r ∷ rs)) bs
first-dated r rs b bs h =
    subst (λ n. dated_bytes (record { date = r.date; count = n } ∷ rs) (b ∷ bs)
    ≡ (r.date, b) ∷ dated_bytes (pop_run (record { date = r.date; count = n } ∷ rs)) bs)
    (let e : suc (r.count - 1) ≡ r.count = omega arith in e) (one-dated r.date (r.count - 1) rs b bs)

pub popped-counted : (rs : List Run) → All (λ n. 1 ≤ n) (run_counts rs) → All (λ n. 1 ≤ n) (run_counts (pop_run rs))
unfolding pop_run
popped-counted [] c = c
popped-counted (r ∷ rs) (cons p c) =
    choose-ind (λ (l : List Run). All (λ n. 1 ≤ n) (run_counts l)) _ (λ _. c) (λ t. cons (omega (arith, leb-false r.count 1 t)) c)

module _ {H W : Type 0} (s : Settings) where
  -- what is to land is what a pass found to land, and then what is still to land
  abbrev Meets : Uart H W → Pass H W → Type 0
  Meets u p = Counted u → comes s.byte_time u ≡ arrivals_in (p.event ∷ []) ++ comes s.byte_time p.state

  out_meets : (u : Uart H W) → Meets u (timed_out s u)
  unfolding timed_out comes landings_in
  out_meets u _ =
      ap (λ d. to_land s.byte_time d u.receiving (dated_bytes u.host_runs u.host))
      (sym (time_out-free s (length u.rx) (line_of u)))

  lands-meets : (u : Uart H W) (l : OnTheLine H) → u.receiving ≡ some l → (f : Fate) → Meets u (landed s f l u)
  unfolding landed comes landings_in
  lands-meets u l e f _ =
      let free : ℕ = (line_of u).line_free_at in
      let bs : List (ℕ × H) = dated_bytes u.host_runs u.host in
      ap (λ o. to_land s.byte_time free o bs) e
      ∙ ap (λ d. (free, l.byte) ∷ landings s.byte_time d bs) (sym (land-free s f l.frame (line_of u)))

  -- a start moves the first byte onto the line, and it lands a byte's time after the later of its date and the line's being free
  start-comes : (u : Uart H W) (r : Run) (rs : List Run) (b : H) (bs : List H) → 1 ≤ r.count → u.receiving ≡ none → u.host_runs ≡ r ∷ rs
      → u.host ≡ b ∷ bs
      → comes s.byte_time u ≡ comes s.byte_time (begun s (later r.date (line_of u).line_free_at) b bs u)
  unfolding comes begun landings start note_source
  start-comes u r rs b bs one e q h =
      let free : ℕ = (line_of u).line_free_at in
      ap (λ o. to_land s.byte_time free o (dated_bytes u.host_runs u.host)) e
      ∙ ap₂ (λ x y. landings s.byte_time free (dated_bytes x y)) q h
      ∙ ap (landings s.byte_time free) (first-dated r rs b bs one)
      ∙ ap (λ x. (after (later r.date free) s.byte_time, b)
      ∷ landings s.byte_time (after (later r.date free) s.byte_time) (dated_bytes (pop_run x) bs)) (sym q)

  starts-meets : (u : Uart H W) (r : Run) (rs : List Run) (b : H) (bs : List H) (p : Pass H W) → u.receiving ≡ none → u.host_runs ≡ r ∷ rs
      → u.host ≡ b ∷ bs → Meets (begun s (later r.date (line_of u).line_free_at) b bs u) p → Meets u p
  unfolding begun
  starts-meets u r rs b bs p e q h m c =
      start-comes u r rs b bs (all_head (subst (λ x. All (λ n. 1 ≤ n) (run_counts x)) q c)) e q h ∙ m (popped-counted u.host_runs c)

  pub pass_meets : (date : ℕ) (u : Uart H W) → Meets u (pass s date u)
  unfolding nothing_due landings_in
  pass_meets date = pass-cases s date Meets (λ u _. out_meets u) (λ u _. refl) (λ u l e. lands-meets u l e _) starts-meets

-- ---- lists of dated bytes

module _ {H : Type 0} where
  none-taken : (n : ℕ) → ◌≡◌ {A = List H} (take n []) []
  none-taken zero = refl
  none-taken (suc n) = refl

  none_dropped : (n : ℕ) → ◌≡◌ {A = List H} (drop n []) []
  none_dropped zero = refl
  none_dropped (suc n) = refl

  pub none-dated : (rs : List Run) → ◌≡◌ {A = List (ℕ × H)} (dated_bytes rs []) []
  unfolding dated_bytes
  none-dated [] = refl
  none-dated (r ∷ rs) =
      ap₂ (λ x y. map (λ b. (r.date, b)) x ++ dated_bytes rs y) (none-taken r.count) (none_dropped r.count) ∙ none-dated rs

  pub not_yet : (date d : ℕ) (b : H) (bs : List (ℕ × H)) → date < d → by date ((d, b) ∷ bs) ≡ []
  unfolding by
  not_yet date d b bs h = choose-false _ _ (lt-leb d date h)

  abbrev pub Due : ℕ → List (ℕ × H) → Type 0
  Due date l = All (λ x. x.0 ≤ date) l

  pub due-append : {date : ℕ} (xs ys : List (ℕ × H)) → Due date xs → Due date ys → Due date (xs ++ ys)
  due-append [] ys a b = b
  due-append (x ∷ xs) ys (cons p a) b = cons p (due-append xs ys a b)

  pub all-by : (date : ℕ) (xs ys : List (ℕ × H)) → Due date xs → by date ys ≡ [] → by date (xs ++ ys) ≡ xs
  unfolding by
  all-by date [] ys a e = e
  all-by date (x ∷ xs) ys (cons p a) e = choose-true _ _ (le-leb x.0 date p) ∙ ap (λ l. x ∷ l) (all-by date xs ys a e)

-- ---- all passes

module _ {H W : Type 0} (s : Settings) (date : ℕ) where
  event-due : (u v : Uart H W) (e : Event H W) → Takes s date u e v → Due date (arrivals_in (e ∷ []))
  unfolding landings_in
  event-due u v (departure at b) t = nil
  event-due u v (timeout at) t = nil
  event-due u v (landing at b f) t = cons t.due nil
  event-due u v (nothing at) t = nil

  -- when the next byte starts is later than the date, and so is its landing
  waiting-later : (u : Uart H W) → Within u → LineQuiet s date u → u.receiving ≡ none → (rs : List Run) (bs : List H) → u.host_runs ≡ rs
      → u.host ≡ bs → by date (landings s.byte_time (line_of u).line_free_at (dated_bytes rs bs)) ≡ []
  unfolding landings by dated_bytes
  waiting-later u w q n [] bs er eh = refl
  waiting-later u w q n (r ∷ rs) [] er eh =
      ap (λ l. by date (landings s.byte_time (line_of u).line_free_at l)) (none-dated (r ∷ rs))
  waiting-later u w q n (r ∷ rs) (b ∷ bs) er eh =
      let one : 1 ≤ r.count = all_head (subst (λ x. All (λ k. 1 ≤ k) (run_counts x)) er w.run_count) in
      let free : ℕ = (line_of u).line_free_at in
      let lands : ℕ = after (later r.date free) s.byte_time in
      let fits : r.date ≤ Dates.last = all_head (subst (λ x. All Fits (run_dates x)) er w.runs_fit) in
      ap (λ l. by date (landings s.byte_time free l)) (first-dated r rs b bs one)
      ∙ not_yet date lands b (landings s.byte_time lands (dated_bytes (pop_run (r ∷ rs)) bs))
      (omega (arith, q.start n r rs b bs er eh, fits, w.line_fits))

  line-later : (u : Uart H W) → Within u → LineQuiet s date u → (o : Option (OnTheLine H)) → u.receiving ≡ o
      → by date (to_land s.byte_time (line_of u).line_free_at o (dated_bytes u.host_runs u.host)) ≡ []
  line-later u w q none e = waiting-later u w q e u.host_runs u.host refl refl
  line-later u w q (some l) e = not_yet date _ l.byte _ (q.landing l e)

  -- from `u` passes found `es` and led to `v`: the landings among it are all that come by the date, and the others are still to come
  pub record Receives (u : Uart H W) (es : List (Event H W)) (v : Uart H W) : Type 0 where
    pub lands : arrivals_in es ≡ by date (comes s.byte_time u)
    pub rest : comes s.byte_time u ≡ arrivals_in es ++ comes s.byte_time v

  -- the same, before it is cut at the date
  record Met (u : Uart H W) (es : List (Event H W)) (v : Uart H W) : Type 0 where
    whole : comes s.byte_time u ≡ arrivals_in es ++ comes s.byte_time v
    due : Due date (arrivals_in es)
    later : by date (comes s.byte_time v) ≡ []

  through_met : {u v : Uart H W} {es : List (Event H W)} → Through s date u es v → Within u → Met u es v
  unfolding comes
  through_met (ends {u = u} {v = v} {e = x} e g) w =
      let law : PassLaw s date u (record { event = x; state = v }) = subst (PassLaw s date u) e (pass-law s date u) in
      let within : Within v = subst (λ p. Within p.state) e (pass-within s date u w) in
      record {
        whole =
            pass_meets s date u w.run_count ∙ ap (λ p. arrivals_in (p.event ∷ []) ++ comes s.byte_time p.state) e;
        due = event-due u v x law.takes;
        later = line-later v within (through-quiet s date (ends e g)) v.receiving refl;
      }
  through_met (goes {u = u} {v = v} {w = z} {e = x} {es = es} e g t) w =
      let law : PassLaw s date u (record { event = x; state = v }) = subst (PassLaw s date u) e (pass-law s date u) in
      let rest : Met v es z = through_met t (subst (λ p. Within p.state) e (pass-within s date u w)) in
      record {
        whole =
            pass_meets s date u w.run_count ∙ ap (λ p. arrivals_in (p.event ∷ []) ++ comes s.byte_time p.state) e
            ∙ ap (λ l. arrivals_in (x ∷ []) ++ l) rest.whole
            ∙ sym (append_assoc (arrivals_in (x ∷ [])) (arrivals_in es) (comes s.byte_time z))
            ∙ ap (λ l. l ++ comes s.byte_time z) (sym (first-arrival x es));
        due =
            subst (Due date) (sym (first-arrival x es))
            (due-append (arrivals_in (x ∷ [])) (arrivals_in es) (event-due u v x law.takes) rest.due);
        later = rest.later;
      }

  through-receives : {u v : Uart H W} {es : List (Event H W)} → Through s date u es v → Within u → Receives u es v
  through-receives t w =
      let m = through_met t w in
      record { lands = sym (ap (by date) m.whole ∙ all-by date _ _ m.due m.later); rest = m.whole }

-- ---- a settling

module _ {H W : Type 0} where
  -- the host bytes that a settling to a date found to land, with their dates, are those that the manual has land by then
  pub settling-receives : (date : ℕ) (u : Uart H W) → Within u
      → Receives (settings_of u) date u (settle_to date u).events (settle_to date u).state
  unfolding settle_to leveled levels drive assert_levels raise_if depart leave tx_done comes
  settling-receives date u w =
      let s : Settings = settings_of u in
      let t = passes s date (depart date u) in
      let r = through-receives s date (through s date (depart date u)) (depart-within date u w) in
      let same : arrivals_in (departures date u ++ t.events) ≡ arrivals_in t.events =
      ap (map (λ l. (l.0, l.1))) (departures-land date u t.events) in
      record {
        lands = same ∙ r.lands;
        rest = r.rest ∙ ap (λ l. l ++ comes s.byte_time t.state) (sym same);
      }
