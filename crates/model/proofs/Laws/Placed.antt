-- Calls whose offset has become a register, so that a write to FIFO carries a byte and every other a word; one such call is
-- what a caller's call does. Assumes nothing.
use Rattle.std.specs.Prelude.{◌≡◌, refl, ℕ, ◌%◌, List}
use Rattle.std.proofs.Common.{ap}
use Rattle.std.proofs.Math.Option.{some}
use Rattle.model.specs.Numbers.{choose}
use Rattle.model.specs.State.{Uart}
use Rattle.model.specs.Map.{Register, is_fifo, register_of}
use Rattle.model.specs.Calls
use Rattle.model.specs.Calls.{Plan, outcome, read_placed, write_placed, send, write_at}
use Rattle.model.specs.Call.{Dated, Undated, Call, date_of, Request, Asked, writes, Answer}
use Rattle.model.specs.Run.{Step, stepped, replying, plan_by, writing, plan, step, run_by}
use Rattle.model.specs.Replies.{ReadOf}
use Rattle.model.proofs.Laws.Choose.{choose-nat}
use Rattle.model.specs.Names.{Write}

-- what is written where: a byte to FIFO, or a word to another register
pub data Put (W : Type 0) : Type 0 where
  byte : W → Put W
  word : Register → ℕ → Put W

abbrev pub Placed : (H W L : Type 0) → Type 0
Placed H W L = Call Register (Put W) H L

-- ---- a call with other parts

module _ {R R' X X' H H' L L' : Type 0} (r : R → R') (x : X → X') (h : List H → List H') (l : List L → List L') where
  unfoldable pub changed_dated : Dated R X H L → Dated R' X' H' L'
  changed_dated (Dated.read a) = Dated.read (r a)
  changed_dated (Dated.write a) = Dated.write (x a)
  changed_dated (Dated.receive date bs) = Dated.receive date (h bs)
  changed_dated (Dated.take_tx lent) = Dated.take_tx (l lent)
  changed_dated (Dated.machine m) = Dated.machine m

unfoldable pub changed_undated : {L L' : Type 0} → (List L → List L') → Undated L → Undated L'
changed_undated l (Undated.take_written lent) = Undated.take_written (l lent)
changed_undated l Undated.has_left = Undated.has_left
changed_undated l Undated.host_pending = Undated.host_pending

unfoldable pub changed : {R R' X X' H H' L L' : Type 0} → (R → R') → (X → X') → (List H → List H') → (List L → List L') → Call R X H L
    → Call R' X' H' L'
changed r x h l (Call.at now c) = Call.at now (changed_dated r x h l c)
changed r x h l (Call.undated c) = Call.undated (changed_undated l c)

-- what is asked for, with another call, or other bytes of a row
unfoldable pub changed_asked : {C C' W W' : Type 0} → (C → C') → (List W → List W') → Asked C W → Asked C' W'
changed_asked k w (Asked.call c) = Asked.call (k c)
changed_asked k w (Asked.row now bs) = Asked.row now (w bs)

-- a FIFO write's byte is its word's low 8 bits
unfoldable pub put_at : Register → ℕ → Put ℕ
put_at p v = choose (is_fifo p) (Put.byte (v % 256)) (Put.word p v)

-- a caller's call with registers for its offsets
unfoldable pub placed : List ℕ → Request → Placed ℕ ℕ ℕ
placed offsets c = changed (register_of offsets) (λ x. put_at (register_of offsets x.offset) x.value) (λ bs. bs) (λ lent. lent) c

abbrev pub placed_asked : List ℕ → Asked Request ℕ → Asked (Placed ℕ ℕ ℕ) ℕ
placed_asked offsets a = changed_asked (placed offsets) (λ bs. bs) a

module _ {H W : Type 0} where
  unfoldable pub putting : ℕ → Put W → Uart H W → Plan Write H W
  putting now (Put.byte b) u = send now b u
  putting now (Put.word p v) u = write_placed now p v u

  unfoldable pub step_by : {R X L : Type 0} → (ℕ → R → Uart H W → Plan (ReadOf H) H W) → (ℕ → X → Uart H W → Plan Write H W)
      → Call R X H L → Uart H W → Step H W L
  step_by rd wr c u = stepped (outcome (date_of c) (plan_by rd wr c u) u)

  unfoldable pub step_placed : {L : Type 0} → Placed H W L → Uart H W → Step H W L
  step_placed c u = step_by read_placed putting c u

  abbrev pub run_placed : {L : Type 0} → List (Asked (Placed H W L) W) → Uart H W → List (Answer H W L)
  run_placed cs u = run_by step_placed cs u

write_at-placed : (now : ℕ) (p : Register) (v : ℕ) (u : Uart ℕ ℕ) → write_at now p v u ≡ putting now (put_at p v) u
unfolding write_at putting put_at
write_at-placed now p v u = choose-nat (λ (x : Put ℕ). putting now x u) (is_fifo p) refl refl

-- a caller's call does what the placed one does
pub step-placed : (c : Request) (u : Uart ℕ ℕ) → step c u ≡ step_placed (placed u.map.offsets c) u
unfolding step plan step_placed placed changed changed_dated changed_undated step_by plan_by date_of writing Calls.read Calls.write
step-placed (Call.at now (Dated.read o)) u = refl
step-placed (Call.at now (Dated.write x)) u =
    ap (λ p. stepped (outcome (some now) (replying writes p) u))
    (write_at-placed now (register_of u.map.offsets x.offset) x.value u)
step-placed (Call.at now (Dated.receive date bs)) u = refl
step-placed (Call.at now (Dated.take_tx lent)) u = refl
step-placed (Call.at now (Dated.machine m)) u = refl
step-placed (Call.undated (Undated.take_written lent)) u = refl
step-placed (Call.undated Undated.has_left) u = refl
step-placed (Call.undated Undated.host_pending) u = refl
