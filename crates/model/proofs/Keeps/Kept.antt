-- What settling leaves alone: the map and the control but for the line and the level; no byte written is lost, and from the
-- bytes in flight, the host bytes and their runs it takes only from the front. Assumes nothing.
use Rattle.model.specs.declared.Source.{Source}
use Rattle.std.specs.Prelude.{◌≡◌, refl, ℕ, ◌+◌, ◌≤◌, false, List, [], ◌∷◌, ◌++◌, length, drop, None}
use Rattle.std.proofs.Common.{sym, ap, ◌∙◌, arith, le_refl, append_assoc, length-append}
use Rattle.std.proofs.lemmas.List.{length-map}
use Rattle.model.specs.State.{Run, Uart}
use Rattle.model.specs.Setters.{with_line, with_level}
use Rattle.model.specs.Line.{raise_if}
use Rattle.model.specs.Settle.{gone, tx_done, leave, depart, pop_run, timed_out, landed, begun, pass, on_the_line, pending, assert_levels}
use Rattle.model.specs.Settle.{drive, levels, leveled, settings_of, settle_to, settle}
use Rattle.model.specs.Calls.{last_date, written}
use Rattle.model.specs.Limits.{run_dates}
use Rattle.model.proofs.Laws.Lists.{last_of, map-split, FromFront, front-refl, front-trans, front_length, front-last}
use Rattle.model.proofs.Laws.Choose.{choose-ind}
use Rattle.model.proofs.Laws.Cases.{KeptOnLine, pass-ind, passes-ind}
use Rattle.model.specs.declared.Control.{Control}
use Rattle.model.specs.declared.Settings.{Settings}

-- from u, settling came to v
pub record Kept {H W : Type 0} (u v : Uart H W) : Type 0 where
  pub map : v.map ≡ u.map
  pub words : v.control.words ≡ u.control.words
  pub period : v.control.period ≡ u.control.period
  pub last : v.control.last ≡ u.control.last
  pub wake : v.control.wake ≡ u.control.wake
  pub watched : v.control.watched ≡ u.control.watched
  pub powered_down_at : v.control.powered_down_at ≡ u.control.powered_down_at
  -- no byte sent is lost, and their order stays
  pub written : written v ≡ written u
  pub sent : length v.tx + length v.in_flight ≡ length u.tx + length u.in_flight
  -- the rest is taken from the front
  pub flying : FromFront u.in_flight v.in_flight
  pub host : FromFront u.host v.host
  pub runs : FromFront (run_dates u.host_runs) (run_dates v.host_runs)
  pub pending : pending v ≤ pending u

-- ---- what follows in numbers

pub last_date-last_of : (rs : List Run) → last_date rs ≡ last_of (run_dates rs)
unfolding last_date last_of
last_date-last_of [] = refl
last_date-last_of (r ∷ []) = refl
last_date-last_of (r ∷ s ∷ rs) = last_date-last_of (s ∷ rs)

module _ {H W : Type 0} {u v : Uart H W} (k : Kept u v) where
  pub fewer-flying : length v.in_flight ≤ length u.in_flight
  fewer-flying = front_length _ _ k.flying

  pub fewer-waiting : length v.host ≤ length u.host
  fewer-waiting = front_length _ _ k.host

  pub fewer-runs : length v.host_runs ≤ length u.host_runs
  fewer-runs = omega (arith, front_length _ _ k.runs, length-map u.host_runs (λ r. r.date), length-map v.host_runs (λ r. r.date))

  -- the last run's date is kept where a run is left
  pub last-run : 1 ≤ length v.host_runs → last_date v.host_runs ≡ last_date u.host_runs
  last-run h = last_date-last_of v.host_runs ∙ front-last _ _ k.runs (rw length-map h) ∙ sym (last_date-last_of u.host_runs)

-- ---- the same, the control in one equation

-- the control without the line and the level
abbrev unmoved : Control → Control
unmoved c =
    with_level false (with_line (record { int_raw = 0; rx_mistimed = Source.None; idle_since = None; line_free_at = 0 }) c)

abbrev Still : {H W : Type 0} → Uart H W → Uart H W → Type 0
Still u v =
    record {
      map : v.map ≡ u.map;
      control : unmoved v.control ≡ unmoved u.control;
      written : written v ≡ written u;
      flying : FromFront u.in_flight v.in_flight;
      host : FromFront u.host v.host;
      runs : FromFront (run_dates u.host_runs) (run_dates v.host_runs);
      pending : pending v ≤ pending u;
    }

written-length : {H W : Type 0} (u : Uart H W) → length (written u) ≡ length u.tx + length u.in_flight
unfolding written
written-length u = simp (length-append, length-map)

kept : {H W : Type 0} (u v : Uart H W) → Still u v → Kept u v
kept u v k = record {
  map = k.map;
  words = ap (λ c. c.words) k.control;
  period = ap (λ c. c.period) k.control;
  last = ap (λ c. c.last) k.control;
  wake = ap (λ c. c.wake) k.control;
  watched = ap (λ c. c.watched) k.control;
  powered_down_at = ap (λ c. c.powered_down_at) k.control;
  written = k.written;
  sent = sym (written-length v) ∙ ap length k.written ∙ written-length u;
  flying = k.flying;
  host = k.host;
  runs = k.runs;
  pending = k.pending;
}

still-refl : {H W : Type 0} (u : Uart H W) → Still u u
still-refl u =
    record {
      map = refl;
      control = refl;
      written = refl;
      flying = front-refl _;
      host = front-refl _;
      runs = front-refl _;
      pending = le_refl _;
    }

-- ---- each step

depart-still : {H W : Type 0} (date : ℕ) (u : Uart H W) → Still u (depart date u)
unfolding depart leave tx_done raise_if pending written
depart-still date u = record {
  map = refl;
  control = refl;
  written = append_assoc u.tx _ _ ∙ ap (λ bs. u.tx ++ bs) (map-split (λ s. s.byte) (gone date u.in_flight) u.in_flight);
  flying = record { less = gone date u.in_flight; rest = refl };
  host = front-refl _;
  runs = front-refl _;
  pending = le_refl _;
}

pop_run-front : (rs : List Run) → FromFront (run_dates rs) (run_dates (pop_run rs))
unfolding pop_run
pop_run-front [] = front-refl _
pop_run-front (r ∷ rs) =
    choose-ind (λ (l : List Run). FromFront (run_dates (r ∷ rs)) (run_dates l)) _ (λ _. record { less = 1; rest = refl })
    (λ _. front-refl _)

on_line : {H W : Type 0} (s : Settings) (u : Uart H W) → KeptOnLine s (Still u)
unfolding timed_out landed begun pending on_the_line written
on_line s u = record {
  timeout = λ v k. k;
  landing = λ l v k. record {
    map = k.map;
    control = k.control;
    written = k.written;
    flying = k.flying;
    host = k.host;
    runs = k.runs;
    pending = omega (arith, k.pending);
  };
  start = λ at b bs v e h k. record {
    map = k.map;
    control = k.control;
    written = k.written;
    flying = k.flying;
    host = front-trans _ _ _ k.host (record { less = 1; rest = sym (ap (drop 1) h) });
    runs = front-trans _ _ _ k.runs (pop_run-front v.host_runs);
    pending = omega (arith, k.pending, ap length h, ap on_the_line e);
  };
}

levels-still : {H W : Type 0} (u v : Uart H W) → Still u v → Still u (levels v)
unfolding levels drive assert_levels pending written
levels-still u v k = k

-- ---- the whole

module _ {H W : Type 0} where
  pub depart-keeps : (date : ℕ) (u : Uart H W) → Kept u (depart date u)
  depart-keeps date u = kept u _ (depart-still date u)

  pub pass-keeps : (s : Settings) (date : ℕ) (u : Uart H W) → Kept u (pass s date u).state
  pass-keeps s date u = kept u _ (pass-ind s (Still u) (on_line s u) date u (still-refl u))

  settle_to-still : (date : ℕ) (u : Uart H W) → Still u (settle_to date u).state
  unfolding settle_to leveled
  settle_to-still date u =
      levels-still u _ (passes-ind (settings_of u) (Still u) (on_line (settings_of u) u) date (depart date u) (depart-still date u))

  pub settle-keeps : (now : ℕ) (u : Uart H W) → Kept u (settle now u).state
  unfolding settle
  settle-keeps now u = kept u _ (settle_to-still _ u)
