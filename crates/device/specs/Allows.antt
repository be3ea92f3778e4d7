-- What a move of the control allows: a byte starts only where one waits, one is stored only where there is room, and one that
-- did not start in the pass was on the line before it. Assumes nothing.
use Rattle.std.specs.Prelude.{◌≡◌, Bool, ℕ, ◌<◌, Some, None}
use Rattle.std.proofs.Math.Path.{refl}
use Rattle.std.proofs.Common.{sym, ltb-true}
use Rattle.std.proofs.Math.Bool.{true, false}
use Rattle.model.proofs.Laws.Choose.{choose-ind}
use Rattle.model.specs.Line.{fate}
use Rattle.model.specs.Names.{Date}
use Rattle.model.specs.declared.Line.{Line}
use Rattle.model.specs.declared.Frame.{Frame}
use Rattle.model.specs.declared.Settings.{Settings}
use Rattle.model.specs.declared.Fate.{Fate}
use Rattle.line.specs.declared.Found.{Found}
use Rattle.line.specs.Names.{Receiving}
use Rattle.line.specs.declared.Move.{Move}
use Rattle.line.specs.Applied.{is_stored}
use Rattle.line.specs.Moves.{resting, timing_out, landing, in_frame, before_start, idle, line_free, move}
use Rattle.device.specs.Never.{never}

-- a byte is on the line
unfoldable pub is_on : Receiving → Bool
is_on None = false
is_on (Some f) = true

-- a date is there
unfoldable pub is_set : Date → Bool
is_set None = false
is_set (Some d) = true

pub record Allows (held : ℕ) (waits : Date) (on : Receiving) (m : Move) : Type 0 where
  pub starts : m.started ≡ true → is_set waits ≡ true
  pub stores : is_stored m.found ≡ true → held < 128
  pub keeps : m.started ≡ false → is_on m.receiving ≡ true → is_on on ≡ true
  pub holds : m.started ≡ false → is_stored m.found ≡ true → is_on on ≡ true

-- a byte is stored only where fewer than 128 are held
stored-room : (s : Settings) (held : ℕ) (f : Frame) → is_stored (Found.Landed (fate s held f)) ≡ true → held < 128
unfolding fate
stored-room s held f =
    choose-ind Room _
    (λ _. choose-ind Room _ (λ _. choose-ind Room _ (λ _ e. never e) (λ _. choose-ind Room _ (λ t _. ltb-true _ _ t) (λ _ e. never e)))
    (λ _ e. never e))
    (λ _ e. never e)
  where
    Room : Fate → Type 0
    Room x = is_stored (Found.Landed x) ≡ true → held < 128

module _ (s : Settings) (held : ℕ) (waits : Date) (on : Receiving) where
  -- nothing moves into the receive FIFO
  still : (started : Bool) (r : Receiving) (l : Line) → (started ≡ true → is_set waits ≡ true)
      → (started ≡ false → is_on r ≡ true → is_on on ≡ true)
      → Allows held waits on (resting started r l) × Allows held waits on (timing_out s held started r l)
  unfolding resting timing_out
  still started r l w k = (
    record { starts = w; stores = λ e. never e; keeps = k; holds = λ _ e. never e },
    record { starts = w; stores = λ e. never e; keeps = k; holds = λ _ e. never e },
  )

  lands : (started : Bool) (f : Frame) (l : Line) → (started ≡ true → is_set waits ≡ true) → (started ≡ false → is_on on ≡ true)
      → Allows held waits on (landing s held started f l)
  unfolding landing is_on
  lands started f l w k = record { starts = w; stores = stored-room s held f; keeps = λ _ e. never e; holds = λ e _. k e }

  in_frame-allows : (date : ℕ) (started : Bool) (f : Frame) (l : Line) → (started ≡ true → is_set waits ≡ true)
      → (started ≡ false → is_on on ≡ true)
      → Allows held waits on (in_frame s held date started f l)
  unfolding in_frame
  in_frame-allows date started f l w k =
      choose-ind (Allows held waits on) _ (λ _. (still started (Some f) l w (λ e _. k e)).1)
      (λ _. choose-ind (Allows held waits on) _ (λ _. (still started (Some f) l w (λ e _. k e)).0)
      (λ _. lands started f l w k))

  -- no byte is on the line, and none started
  free : (l : Line) → Allows held waits on (resting false None l)
      × Allows held waits on (timing_out s held false None l)
  unfolding is_on
  free l = still false None l (λ e. never e) (λ _ e. never e)

  line-idle : (date : ℕ) (l : Line) → Allows held waits on (idle s held date l)
  unfolding idle
  line-idle date l = choose-ind (Allows held waits on) _ (λ _. (free l).1) (λ _. (free l).0)

  before-start : (date at : ℕ) (l : Line) → is_set waits ≡ true → Allows held waits on (before_start s held date at l)
  unfolding before_start
  before-start date at l w =
      choose-ind (Allows held waits on) _ (λ _. (free l).1)
      (λ _. choose-ind (Allows held waits on) _ (λ _. (free l).0) (λ _. in_frame-allows date true _ _ (λ _. w) (λ e. never (sym e))))

module _ (s : Settings) (held date : ℕ) where
  line-free : (waits : Date) (on : Receiving) (l : Line) → Allows held waits on (line_free s held date waits l)
  unfolding line_free is_set
  line-free None on l = line-idle s held None on date l
  line-free (Some d) on l = before-start s held (Some d) on date _ l refl

  pub allows : (waits : Date) (on : Receiving) (l : Line) → Allows held waits on (move s held date waits on l)
  unfolding move is_on
  allows waits None l = line-free waits None l
  allows waits (Some f) l = in_frame-allows s held waits (Some f) date false f l (λ e. never e) (λ _. refl)
