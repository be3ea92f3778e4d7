-- Host bytes that are handed over: their date, the run that they join, and what is left waiting; and what take_tx puts into a lent buffer.
-- Assumes nothing.
use Rattle.std.specs.Prelude.{◌≡◌, ℕ, ◌+◌, ◌-◌, ◌*◌, ◌^◌, ◌≤◌, ◌<◌, min, max, Bool, length, drop, Ok, Err}
use Rattle.std.proofs.Math.Path.{refl, ap}
use Rattle.std.proofs.Math.Option.{none}
use mathlib.Core.List.{List, [], ◌∷◌, ◌++◌}
use Rattle.std.proofs.Common.{le-ltb, le-leb}
use Rattle.std.proofs.lemmas.Bool.{lt-leb}
use Rattle.model.specs.State.{Run, Uart}
use Rattle.model.specs.Setters.{with_tx, with_host}
use Rattle.model.specs.Arm.{arm}
use Rattle.model.specs.Tests.{refuse_if}
use Rattle.model.specs.Calls
use Rattle.model.specs.Calls.{after_settling, carried, quiet, filled, not_taken, joined, host_date, hand_over}
use Rattle.model.specs.Call.{Dated, Undated, Call, date_of, takes}
use Rattle.model.specs.Run.{Step, number_of, stepped, replying, plan_by, plan, step}
use Rattle.model.proofs.Laws.Choose.{choose-true, choose-false}
use Rattle.model.specs.Run.{answering}
use Rattle.model.proofs.Refuses.Exactly.{call-carried, call-untouched}
use Rattle.model.proofs.MeetsManual.Answers.{InTime, settled, carried-answer}
use Rattle.model.specs.declared.Refusal.{Refusal}
use Rattle.model.specs.declared.Refusal.TheVariants.{BufferTooShort}

-- ---- runs

module _ (date n : ℕ) where
  -- where none waits the bytes make a run
  pub joins-none : joined date n [] ≡ record { date = date; count = n } ∷ []
  unfolding joined
  joins-none = refl

  -- with a date no later than the last run's they join that run, which keeps its date
  pub joins-last : (rs : List Run) (r : Run) → date ≤ r.date
      → joined date n (rs ++ (r ∷ [])) ≡ rs ++ (record { date = r.date; count = r.count + n } ∷ [])
  unfolding joined
  joins-last [] r h = choose-true _ _ (le-leb date r.date h)
  joins-last (q ∷ []) r h = ap (λ (l : List Run). q ∷ l) (choose-true _ _ (le-leb date r.date h))
  joins-last (q ∷ s ∷ rs) r h = ap (λ (l : List Run). q ∷ l) (joins-last (s ∷ rs) r h)

  -- with a later one they make a run of their own behind it
  pub joins-behind : (rs : List Run) (r : Run) → r.date < date
      → joined date n (rs ++ (r ∷ [])) ≡ rs ++ (r ∷ record { date = date; count = n } ∷ [])
  unfolding joined
  joins-behind [] r h = choose-false _ _ (lt-leb date r.date h)
  joins-behind (q ∷ []) r h = ap (λ (l : List Run). q ∷ l) (choose-false _ _ (lt-leb date r.date h))
  joins-behind (q ∷ s ∷ rs) r h = ap (λ (l : List Run). q ∷ l) (joins-behind (s ∷ rs) r h)

-- a hand-over settles; then its bytes wait behind the others, dated max(its cycle, now) × 32 held at the last date, and the wake is armed
pub handed-over : (now at : ℕ) (u : Uart ℕ ℕ) (b : ℕ) (bs : List ℕ)
    → number_of (step (Call.at now (Dated.receive at (b ∷ bs))) u).answer.reply ≡ 0
    → let v : Uart ℕ ℕ = settled now u in
    (step (Call.at now (Dated.receive at (b ∷ bs))) u).state
    ≡ arm (with_host (v.host ++ (b ∷ bs)) (joined (min (max at now * 32) (2 ^ 64 - 1)) (length (b ∷ bs)) v.host_runs) v)
unfolding stepped carried after_settling date_of plan plan_by replying quiet hand_over host_date Calls.receive
handed-over now at u b bs done = ap (λ (s : Step ℕ ℕ ℕ). s.state) (call-carried (Call.at now (Dated.receive at (b ∷ bs))) u done)

-- ---- a lent buffer

-- take_tx settles and puts the bytes that left at the front, answers how many, and writes nothing after them
pub take-tx : (now : ℕ) (u : Uart ℕ ℕ) (lent : List ℕ) → InTime now u → 1152 ≤ length lent → let out : List ℕ = (settled now u).tx in
    ((step (Call.at now (Dated.take_tx lent)) u).answer.reply
    ≡ takes (record { taken = Ok (length out); front = out; rest = drop (length out) lent }))
    × ((step (Call.at now (Dated.take_tx lent)) u).state ≡ with_tx [] (settled now u))
unfolding step plan plan_by date_of answering Calls.take_tx carried after_settling quiet filled refuse_if
take-tx now u lent t long =
    let q = carried-answer t takes (Calls.take_tx now lent u)
    (ap (λ (b : Bool). refuse_if b BufferTooShort none) (le-ltb (length lent) 1152 long)) in (
      ap (λ (s : Step ℕ ℕ ℕ). s.answer.reply) q,
      ap (λ (s : Step ℕ ℕ ℕ). s.state) q,
    )

-- a refused call leaves the buffer as it was lent
pub refused-take-tx : (now : ℕ) (u : Uart ℕ ℕ) (lent : List ℕ) → 1 ≤ number_of (step (Call.at now (Dated.take_tx lent)) u).answer.reply
    → (r : Refusal)
    × ((step (Call.at now (Dated.take_tx lent)) u).answer.reply ≡ takes (record { taken = Err r; front = []; rest = lent }))
unfolding plan plan_by replying Calls.take_tx not_taken
refused-take-tx now u lent h =
    let (r, e) = call-untouched (Call.at now (Dated.take_tx lent)) u h in (r, ap (λ (s : Step ℕ ℕ ℕ). s.answer.reply) e)

pub refused-take-written : (u : Uart ℕ ℕ) (lent : List ℕ) → 1 ≤ number_of (step (Call.undated (Undated.take_written lent)) u).answer.reply
    → (r : Refusal)
    × ((step (Call.undated (Undated.take_written lent)) u).answer.reply
    ≡ takes (record { taken = Err r; front = []; rest = lent }))
unfolding plan plan_by replying Calls.take_written not_taken
refused-take-written u lent h =
    let (r, e) = call-untouched (Call.undated (Undated.take_written lent)) u h in (r, ap (λ (s : Step ℕ ℕ ℕ). s.answer.reply) e)
