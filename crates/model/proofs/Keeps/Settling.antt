-- Settling keeps a state within the limits, at any date and from every such state: departures, a timeout, a landing and a
-- start each do. Assumes nothing.
use Rattle.std.specs.Prelude.{refl, ℕ, ◌≤◌, ◌<◌, Bool, false, List, [], ◌∷◌, ◌++◌, map, length, take, drop}
use Rattle.std.proofs.Common.{sym, subst, ◌∙◌, arith, length-append, length-take, length-drop, leb-true, leb-false, ltb-true}
use Rattle.std.proofs.Math.Nat.{min-le_right}
use Rattle.std.proofs.lemmas.Bool.{false≢true}
use Rattle.std.proofs.lemmas.List.{length-map}
use Rattle.dates.specs.Dates
use Rattle.dates.specs.Dates.{after}
use Rattle.model.specs.Events
use Rattle.model.specs.State.{Sent, Run, Uart}
use Rattle.model.specs.Setters.{with_line_free_at}
use Rattle.model.specs.Line.{fifo_bytes, raise_if, note_source, opened, time_out, frame, start, fate, land}
use Rattle.model.specs.Settle.{gone, tx_done, leave, depart, pop_run, received, timed_out, landed, begun, pass, assert_levels, drive}
use Rattle.model.specs.Settle.{levels, leveled, settings_of, settle_to, settle}
use Rattle.model.specs.Limits.{cons, flight_dates, NoLater, Fits, Within}
use Rattle.model.proofs.Laws.Lists.{chain-drop, all_head, all_drop, map-drop}
use Rattle.model.proofs.Laws.Choose.{choose-ind}
use Rattle.model.proofs.Laws.Cases.{KeptOnLine, pass-ind, passes-ind}
use Rattle.model.proofs.Keeps.Parts.{FlightWithin, HostWithin, LineWithin, Parts, put_flight, put_rx, put_host, put_line, through}
use Rattle.model.specs.declared.Line.{Line}
use Rattle.model.specs.declared.Frame.{Frame}
use Rattle.model.specs.declared.Settings.{Settings}
use Rattle.model.specs.declared.Fate.{Fate}
use Rattle.model.specs.declared.Fate.TheVariants.{Stored, Overflowed, Cleared, ClockOff, Unheard}

-- ---- departures

drop-within : {W : Type 0} (n : ℕ) (ss : List (Sent W)) (tx : List W) → FlightWithin ss tx
    → FlightWithin (drop n ss) (tx ++ map (λ s. s.byte) (take n ss))
drop-within n ss tx w = record {
  flying = rw length-drop (omega arith);
  order = rw map-drop (chain-drop n (flight_dates ss) w.order);
  fit = rw map-drop (all_drop n (flight_dates ss) w.fit);
  sent = rw (length-append, length-map, length-take, length-drop) (omega arith);
}

depart-parts : {H W : Type 0} (date : ℕ) (u : Uart H W) → Parts u → Parts (depart date u)
unfolding depart leave tx_done raise_if
depart-parts date u p = put_flight p (drop-within (gone date u.in_flight) u.in_flight u.tx p.flight)

-- ---- the line

-- a timeout closes the idle line in every case
time_out-within : (s : Settings) (held : ℕ) (heard : Bool) (l : Line) → LineWithin heard l → LineWithin heard (time_out s held l)
unfolding time_out raise_if note_source
time_out-within s held heard l w =
    choose-ind (LineWithin heard) _ (λ _. record { idle = λ _. refl; free = w.free; since = tt })
    (λ _. record { idle = λ _. refl; free = w.free; since = tt })

-- no byte is on the line
free-within : (l : Line) → Fits l.line_free_at → NoLater Dates.last l.idle_since → LineWithin false l
free-within l f s = record { idle = λ e. absurd (false≢true e); free = f; since = s }

-- an idle line opens when the line is free
land-within : (s : Settings) (f : Fate) (how : Frame) (heard : Bool) (l : Line) → LineWithin heard l → LineWithin false (land s f how l)
unfolding land opened raise_if note_source
land-within s Stored how heard l w = free-within (land s Stored how l) w.free w.free
land-within s Overflowed how heard l w = free-within (land s Overflowed how l) w.free w.free
land-within s Cleared how heard l w = free-within (land s Cleared how l) w.free w.free
land-within s ClockOff how heard l w = free-within (land s ClockOff how l) w.free w.since
land-within s Unheard how heard l w = free-within (land s Unheard how l) w.free w.since

-- a heard start closes the idle line
start-within : (s : Settings) (at : ℕ) (heard : Bool) (l : Line) → LineWithin heard l → LineWithin (frame s).heard (start s at l)
unfolding start frame note_source
start-within s at heard l w =
    choose-ind (λ (x : Line). LineWithin s.rx_sclk_en (with_line_free_at (after at s.byte_time) x)) _
    (λ e. record { idle = λ _. refl; free = min-le_right _ _; since = tt })
    (λ e. record { idle = λ h. absurd (false≢true (sym e ∙ h)); free = min-le_right _ _; since = w.since })

-- a byte is stored only where fewer than 128 are held
received-within : {H : Type 0} (s : Settings) (how : Frame) (b : H) (held : List H) → length held ≤ fifo_bytes
    → length (received (fate s (length held) how) b held) ≤ fifo_bytes
unfolding received fate
received-within {H} s how b held le =
    choose-ind Fine _ (λ _. choose-ind Fine _ (λ _.
    choose-ind Fine _ (λ _. le) (λ _. choose-ind Fine _ (λ t. stored (ltb-true _ _ t)) (λ _. le))) (λ _. le)) (λ _. le)
  where
    Fine : Fate → Type 0
    Fine f = length (received f b held) ≤ fifo_bytes

    stored : length held < fifo_bytes → Fine Stored
    stored h = rw length-append (omega arith)

-- ---- the host bytes

-- the first run loses a byte, and goes with its last
pop_run-within : {H : Type 0} (rs : List Run) (b : H) (bs : List H) → HostWithin rs (b ∷ bs) → HostWithin (pop_run rs) bs
unfolding pop_run Events.total
pop_run-within [] b bs w = absurd (omega (arith, w.total))
pop_run-within (r ∷ rs) b bs w =
    choose-ind (λ (l : List Run). HostWithin l bs) _
    (λ t. record {
      runs = omega arith;
      counts = all_drop 1 _ w.counts;
      order = chain-drop 1 _ w.order;
      fit = all_drop 1 _ w.fit;
      total = let c = all_head w.counts in omega (arith, leb-true);
      host = omega arith;
    })
    (λ t. record {
      runs = w.runs;
      counts = cons (omega (arith, leb-false)) (all_drop 1 _ w.counts);
      order = w.order;
      fit = w.fit;
      total = let c = all_head w.counts in omega arith;
      host = omega arith;
    })

-- ---- the line pass by pass

on_line : {H W : Type 0} (s : Settings) → KeptOnLine {H = H} {W = W} s Parts
unfolding timed_out landed begun
on_line s = record {
  timeout = λ u p. put_line p (time_out-within s _ _ _ p.line);
  landing = λ l u p. put_line (put_rx p (received-within s l.frame l.byte u.rx p.rx)) (land-within s _ l.frame _ _ p.line);
  start =
      λ at b bs u e h p. put_line (put_host p (pop_run-within u.host_runs b bs (subst (HostWithin u.host_runs) h p.host)))
      (start-within s at _ _ p.line);
}

-- ---- levels, and the whole

-- levels touch INT_RAW and the interrupt level alone
pub levels-parts : {H W : Type 0} (u : Uart H W) → Parts u → Parts (levels u)
unfolding levels drive assert_levels raise_if
levels-parts u p = p

pub settle-parts : {H W : Type 0} (now : ℕ) (u : Uart H W) → Parts u → Parts (settle now u).state
unfolding settle settle_to leveled
settle-parts now u p = levels-parts _ (passes-ind (settings_of u) Parts (on_line (settings_of u)) _ (depart _ u) (depart-parts _ u p))

module _ {H W : Type 0} where
  pub depart-within : (date : ℕ) (u : Uart H W) → Within u → Within (depart date u)
  depart-within date u w = through u _ (depart-parts date u) w

  pub pass-within : (s : Settings) (date : ℕ) (u : Uart H W) → Within u → Within (pass s date u).state
  pass-within s date u w = through u _ (pass-ind s Parts (on_line s) date u) w

  pub levels-within : (u : Uart H W) → Within u → Within (levels u)
  levels-within u w = through u _ (levels-parts u) w

  -- settling at any date keeps a state within the limits
  pub settle-within : (now : ℕ) (u : Uart H W) → Within u → Within (settle now u).state
  settle-within now u w = through u _ (settle-parts now u) w
