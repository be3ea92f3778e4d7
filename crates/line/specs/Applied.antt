-- The bytes follow: a pass of the definition is what `move` decides, carried out on the bytes. Assumes nothing.
use Rattle.std.specs.Prelude.{◌≡◌, ℕ, Bool, true, false, length, take, drop, Some, None}
use Rattle.std.proofs.Math.Path.{refl}
use Rattle.std.proofs.Math.Option.{Option, none, some}
use mathlib.Core.List.{List, [], ◌∷◌, ◌++◌}
use Rattle.model.proofs.Laws.Choose.{choose-both}
use Rattle.model.specs.State.{Run, OnTheLine, Uart, line_of}
use Rattle.model.specs.Setters.{with_rx, with_receiving, with_host, with_line_of}
use Rattle.model.specs.Line.{frame, fate}
use Rattle.model.specs.Settle
use Rattle.model.specs.Settle.{pop_run, received, nothing_due, timed_out, landed, begun, pass_on, pass}
use Rattle.model.specs.Names.{Date}
use Rattle.model.specs.declared.Settings.{Settings}
use Rattle.model.specs.declared.Fate.{Fate}
use Rattle.model.specs.declared.Fate.TheVariants.{Stored, Overflowed, Cleared, ClockOff, Unheard}
use Rattle.line.specs.declared.Found.{Found}
use Rattle.line.specs.declared.Found.TheVariants.{NothingDue, TimedOut, Landed}
use Rattle.line.specs.Seen.{found_of, Seen, seen}
use Rattle.line.specs.Names.{Receiving}
use Rattle.line.specs.declared.Move.{Move}
use Rattle.line.specs.Moves.{resting, timing_out, landing, in_frame, before_start, idle, line_free, move}

-- the date of the first run, if a host byte waits
unfoldable pub waiting : {H : Type 0} → List Run → List H → Date
waiting [] bs = None
waiting (r ∷ rs) [] = None
waiting (r ∷ rs) (b ∷ bs) = Some r.date

-- what is on the line, without its byte, and the byte
unfoldable pub mark : {H : Type 0} → Option (OnTheLine H) → Receiving
mark none = None
mark (some l) = Some l.frame

unfoldable pub line_byte : {H : Type 0} → Option (OnTheLine H) → List H
line_byte none = []
line_byte (some l) = l.byte ∷ []

-- the byte that a pass is about: the one that starts in it, or else the one on the line
unfoldable pub subject : {H : Type 0} → Bool → List H → Option (OnTheLine H) → List H
subject true host l = take 1 host
subject false host l = line_byte l

unfoldable pub marked : {H : Type 0} → Receiving → List H → Option (OnTheLine H)
marked None bs = none
marked (Some f) [] = none
marked (Some f) (b ∷ bs) = some (record { byte = b; frame = f })

abbrev pub is_stored : Found → Bool
is_stored NothingDue = false
is_stored TimedOut = false
is_stored (Landed Stored) = true
is_stored (Landed Overflowed) = false
is_stored (Landed Cleared) = false
is_stored (Landed ClockOff) = false
is_stored (Landed Unheard) = false

-- a stored byte goes to the end of the receive FIFO
unfoldable pub stored_into : {H : Type 0} → Bool → List H → List H → List H
stored_into true bs held = held ++ bs
stored_into false bs held = held

unfoldable pub drop_if : {A : Type 0} → Bool → List A → List A
drop_if true l = drop 1 l
drop_if false l = l

unfoldable pub pop_run_if : Bool → List Run → List Run
pop_run_if true rs = pop_run rs
pop_run_if false rs = rs

stored-rx : {H : Type 0} (f : Fate) (b : H) (held : List H) → received f b held ≡ stored_into (is_stored (Landed f)) (b ∷ []) held
unfolding received stored_into
stored-rx Stored b held = refl
stored-rx Overflowed b held = refl
stored-rx Cleared b held = refl
stored-rx ClockOff b held = refl
stored-rx Unheard b held = refl

module _ {H W : Type 0} where
  -- what `move` decides, carried out on the bytes
  unfoldable pub applied : Uart H W → Move → Seen H W
  applied u m = record {
    found = m.found;
    state = with_rx (stored_into (is_stored m.found) (subject m.started u.host u.receiving) u.rx)
        (with_receiving (marked m.receiving (subject m.started u.host u.receiving))
        (with_host (drop_if m.started u.host) (pop_run_if m.started u.host_runs) (with_line_of m.line u)));
  }

  module _ (s : Settings) (date : ℕ) where
    abbrev Law : Uart H W → Type 0
    Law u = seen (pass s date u) ≡ applied u
        (move s (length u.rx) date (waiting u.host_runs u.host) (mark u.receiving) (line_of u))

    -- a byte on the line
    frame-law : (l : OnTheLine H) (u : Uart H W) → Law (with_receiving (some l) u)
    unfolding found_of pass pass_on Settle.in_frame nothing_due timed_out landed applied move in_frame resting timing_out landing mark
        marked subject line_byte drop_if pop_run_if stored_into
    frame-law l u =
        let v : Uart H W = with_receiving (some l) u in
        choose-both seen (applied v) _ refl (choose-both seen (applied v) _ refl
        (rw (stored-rx (fate s (length u.rx) l.frame) l.byte u.rx)))

    -- no byte on the line
    free_law : (rs : List Run) (bs : List H) (u : Uart H W) → Law (with_receiving none (with_host bs rs u))
    unfolding found_of pass pass_on Settle.line_free Settle.idle Settle.before_start Settle.in_frame begun nothing_due timed_out landed
        applied move
        line_free idle before_start in_frame resting timing_out landing waiting mark marked subject line_byte drop_if pop_run_if stored_into
    free_law [] bs u = choose-both seen (applied (with_receiving none (with_host bs [] u))) _ refl refl
    free_law (r ∷ rs) [] u = choose-both seen (applied (with_receiving none (with_host [] (r ∷ rs) u))) _ refl refl
    free_law (r ∷ rs) (b ∷ bs) u =
        let v : Uart H W = with_receiving none (with_host (b ∷ bs) (r ∷ rs) u) in
        choose-both seen (applied v) _ refl
        (choose-both seen (applied v) _ refl
        (choose-both seen (applied v) _ refl
        (choose-both seen (applied v) _ refl (rw (stored-rx (fate s (length u.rx) (frame s)) b u.rx)))))

    law-by : (o : Option (OnTheLine H)) (u : Uart H W) → Law (with_receiving o u)
    law-by none u = free_law u.host_runs u.host u
    law-by (some l) u = frame-law l u

    -- a pass decides on numbers and marks, and the bytes follow
    pub pass-applied : (u : Uart H W) → Law u
    pass-applied u = law-by u.receiving u
