-- What a row is, in calls: the state that it leaves, its passes, overflows and notices, and what its settlings find are those of its
-- writes made one by one, its number is its first write's, and an empty one changes nothing. Assumes nothing.
use Rattle.std.specs.Prelude.{◌≡◌, Bool, take, Ok, Err}
use Rattle.std.proofs.Math.Path.{refl, sym, ap, ap₂}
use Rattle.std.proofs.Common.{◌∙◌, arith, length-take-le, le-ltb}
use Prim.Native.Nat.{ℕ, suc, ◌+◌, ◌%◌, ◌≤◌, ◌<◌, suc-le-suc}
use Rattle.std.proofs.Math.Bool.{decide}
use Rattle.std.proofs.Math.Option.{Option, none, some}
use mathlib.Core.List.{List, [], ◌∷◌, ◌++◌, map, flat_map}
use Rattle.std.proofs.Math.ListN.{length}
use Rattle.std.proofs.lemmas.List.{length-map}
use Rattle.std.proofs.lemmas.Bool.{lt-leb}
use Rattle.model.specs.State.{Uart}
use Rattle.model.specs.Events.{total}
use Rattle.model.specs.Replies.{Notes, notices, no_report, report, write_number}
use Rattle.model.specs.Map.{Register, is_fifo, register_of}
use Rattle.model.specs.Registers.{concluded}
use Rattle.model.specs.Tests.{date_end, refuse_if, refuse_date}
use Rattle.model.specs.Calls
use Rattle.model.specs.Calls.{Outcome, refusing, unless, after_settling, carried, outcome, send, write_at}
use Rattle.model.specs.Call
use Rattle.model.specs.Call.{Dated, Call, date_of, Request, Asked, Ask}
use Rattle.model.specs.Row.{Count, counted_all, times_of, notes_of, fifo_write, writes, left_by, summed, first_test, row, row_number}
use Rattle.model.specs.Row.{row_limit}
use Rattle.model.specs.Run.{Step, answering, plan_by, plan, writing, step, asked_by, run_by, run, history}
use Rattle.model.specs.Limits.{All, nil, cons}
use Rattle.model.proofs.Laws.Choose.{choose-true, choose-ind}
use Rattle.model.proofs.Laws.Lists.{all_take}
use Rattle.model.proofs.Laws.Plans.{replied}
use Rattle.model.proofs.Keeps.Runs.{state_after}
use Rattle.model.proofs.Refuses.Carried.{send-proper}
use Rattle.model.proofs.Keeps.MapKept.{step_kept}
use Rattle.model.specs.declared.Refusal.{Refusal}
use Rattle.model.specs.declared.Refusal.TheVariants.{DatePastEnd, DateWentBack}
use Rattle.model.specs.Names.{Row, Write}

-- ---- one write

-- a write of a byte at an offset
abbrev pub write_of : ℕ → ℕ → ℕ → Request
write_of now offset b = Call.at now (Dated.write (record { offset = offset; value = b }))

module _ (now offset : ℕ) where
  -- at FIFO's offset it is the row's
  written_step : (b : ℕ) (u : Uart ℕ ℕ) → register_of u.map.offsets offset ≡ Register.fifo → b < 256
      → step (write_of now offset b) u ≡ answering Call.writes (fifo_write now u b)
  unfolding step plan plan_by writing date_of Calls.write write_at decide
  written_step b u e h =
      replied Call.writes (Calls.write now offset b u) u (some now)
      ∙ ap (λ p. answering Call.writes (outcome (some now) p u))
      (choose-true _ _ (ap is_fifo e) ∙ ap (λ (n : ℕ). send now n u) (let q : b % 256 ≡ b = omega (arith, h) in q))

  -- writes of bytes, as calls
  abbrev pub as_calls : List ℕ → List Ask
  as_calls bs = map (λ b. Asked.call (write_of now offset b)) bs

  -- writes that are made, and the same as calls: the state that they leave, and all that they answer and find
  record Same (os : List (Outcome Write ℕ ℕ)) (cs : List Ask) (u : Uart ℕ ℕ) : Type 0 where
    state : left_by u os ≡ state_after cs u
    passes : total (λ o. o.report.passes) os ≡ total (λ a. a.report.passes) (run cs u)
    overflows : total (λ o. o.report.overflows) os ≡ total (λ a. a.report.overflows) (run cs u)
    notices : flat_map (λ o. notes_of o.report) os ≡ flat_map (λ a. notes_of a.report) (run cs u)
    events : flat_map (λ o. o.events) os ≡ history cs u

  -- one more in front
  module _ (b : ℕ) (bs : List ℕ) (u : Uart ℕ ℕ) (e : register_of u.map.offsets offset ≡ Register.fifo) (h : b < 256) where
    kept : (fifo_write now u b).state.map ≡ u.map
    unfolding answering
    kept = sym (ap (λ (s : Step ℕ ℕ ℕ). s.state.map) (written_step b u e h)) ∙ step_kept (write_of now offset b) u

    more : (os : List (Outcome Write ℕ ℕ)) → Same os (as_calls (take (length os) bs)) (fifo_write now u b).state
        → Same (fifo_write now u b ∷ os) (as_calls (take (length (fifo_write now u b ∷ os)) (b ∷ bs))) u
    unfolding left_by state_after asked_by run_by history total flat_map answering
    more os rest =
        let cs : List Ask = as_calls (take (length os) bs) in
        let one = written_step b u e h in
        record {
          state = rest.state ∙ sym (ap (λ (s : Step ℕ ℕ ℕ). state_after cs s.state) one);
          passes = ap (λ (n : ℕ). (fifo_write now u b).report.passes + n) rest.passes
              ∙ sym (ap (λ (s : Step ℕ ℕ ℕ). s.answer.report.passes + total (λ a. a.report.passes) (run cs s.state)) one);
          overflows = ap (λ (n : ℕ). (fifo_write now u b).report.overflows + n) rest.overflows
              ∙ sym (ap (λ (s : Step ℕ ℕ ℕ). s.answer.report.overflows + total (λ a. a.report.overflows) (run cs s.state)) one);
          notices = ap (λ ns. notes_of (fifo_write now u b).report ++ ns) rest.notices
              ∙ sym (ap (λ (s : Step ℕ ℕ ℕ). notes_of s.answer.report ++ flat_map (λ a. notes_of a.report) (run cs s.state)) one);
          events = ap (λ es. (fifo_write now u b).events ++ es) rest.events
              ∙ sym (ap (λ (s : Step ℕ ℕ ℕ). s.events ++ history cs s.state) one);
        }

  nothing : (u : Uart ℕ ℕ) → Same [] [] u
  unfolding left_by state_after run_by history total flat_map
  nothing u = record { state = refl; passes = refl; overflows = refl; notices = refl; events = refl }

  writes-run : (bs : List ℕ) (u : Uart ℕ ℕ) → register_of u.map.offsets offset ≡ Register.fifo → All (λ b. b < 256) bs
      → Same (writes now u bs) (as_calls (take (length (writes now u bs)) bs)) u
  unfolding writes
  writes-run [] u e nil = nothing u
  writes-run (b ∷ bs) u e (cons h hs) =
      choose-ind (λ (os : List (Outcome Write ℕ ℕ)). Same os (as_calls (take (length os) (b ∷ bs))) u) _
      (λ _. more b bs u e h (writes now (fifo_write now u b).state bs) (writes-run bs (fifo_write now u b).state
      (ap (λ m. register_of m.offsets offset) (kept b bs u e h) ∙ e) hs))
      (λ _. nothing u)

writes-few : {H W : Type 0} (now : ℕ) (bs : List W) (u : Uart H W) → length (writes now u bs) ≤ length bs
unfolding writes
writes-few now [] u = omega arith
writes-few {H} {W} now (b ∷ bs) u =
    let none : 0 ≤ suc (length bs) = omega arith in
    choose-ind (λ (os : List (Outcome Write H W)). length os ≤ suc (length bs)) _
    (λ _. suc-le-suc (writes-few now bs (fifo_write now u b).state)) (λ _. none)

-- ---- the row

-- tests 2 and 3 pass
dates-pass : {H W : Type 0} (now : ℕ) (u : Uart H W) → now < date_end → u.control.last ≤ now → (rest : Option Refusal)
    → refuse_date now u.control rest ≡ rest
unfolding refuse_date refuse_if
dates-pass now u h g rest =
    ap₂ (λ (p q : Bool). refuse_if p DatePastEnd (refuse_if q DateWentBack rest)) (lt-leb date_end now h) (le-ltb now u.control.last g)

module _ {H W : Type 0} (now : ℕ) (u : Uart H W) where
  -- an empty row changes nothing, not even the last date, and is not refused with the transmit side full
  pub empty-row : now < date_end → u.control.last ≤ now
      → row now [] u
      ≡ record { reply = Ok (record { count = 0; first = 0; second = 0 }); report = report 0 0 [] u; state = u; events = [] }
  unfolding row first_test unless summed writes left_by total times_of counted_all flat_map
  empty-row h g =
      ap (λ (t : Option Refusal). unless t Err (λ s. summed s (writes now s (take row_limit []))) u) (dates-pass now u h g none)

  sends-zero : (b : W) → write_number (carried (some now) (send now b u) u).reply ≡ 0
  unfolding carried after_settling send concluded
  sends-zero b = (send-proper now b _).zero

  -- a row is refused with its first write, and by its number
  pub row-refused : (b : W) (bs : List W) → row_number (row now (b ∷ bs) u).reply ≡ write_number (fifo_write now u b).reply
  unfolding row first_test outcome send unless refusing summed row_number write_number
  row-refused b bs = by-test (refuse_date now u.control (send now b u).test)
    where
      by-test : (t : Option Refusal)
          → row_number (unless t Err (λ s. summed s (writes now s (take row_limit (b ∷ bs)))) u).reply
          ≡ write_number (unless t Err (carried (some now) (send now b u)) u).reply
      by-test none = sym (sends-zero b)
      by-test (some r) = refl

  -- a refused one keeps the state
  pub refused-row : (bs : List W) → 1 ≤ row_number (row now bs u).reply → ((row now bs u).state ≡ u) × ((row now bs u).report ≡ no_report)
  unfolding row unless refusing summed row_number
  refused-row bs = by-test (refuse_date now u.control (first_test now bs u))
    where
      by-test : (t : Option Refusal) → let x : Outcome Row H W = unless t Err (λ s. summed s (writes now s (take row_limit bs)))
          u in
          1 ≤ row_number x.reply → (x.state ≡ u) × (x.report ≡ no_report)
      by-test none h = absurd (omega (arith, h))
      by-test (some r) h = (refl, refl)

-- from every state, of as many writes as were made
module _ (now offset : ℕ) (bs : List ℕ) (u : Uart ℕ ℕ) (fifo : register_of u.map.offsets offset ≡ Register.fifo)
    (bytes : All (λ b. b < 256) bs) where
  -- the writes that are made, as calls
  abbrev pub made_calls : List Ask
  made_calls = as_calls now offset (take (length (writes now u (take row_limit bs))) (take row_limit bs))

  abbrev pub made_row : Outcome Row ℕ ℕ
  made_row = summed u (writes now u (take row_limit bs))

  all_made : length (writes now u (take row_limit bs)) ≡ length made_calls
  all_made =
      let os = writes now u (take row_limit bs) in
      let few : length os ≤ length (take row_limit bs) = writes-few now (take row_limit bs) u in
      sym (length-map (take (length os) (take row_limit bs)) (λ b. Asked.call (write_of now offset b))
      ∙ length-take-le (length os) (take row_limit bs) few)

  same : Same now offset (writes now u (take row_limit bs)) made_calls u
  same = writes-run now offset (take row_limit bs) u fifo (all_take row_limit bs bytes)

  -- the state, the passes and the overflows
  pub row-calls : (made_row.state ≡ state_after made_calls u)
      × (made_row.report.passes ≡ total (λ a. a.report.passes) (run made_calls u))
      × (made_row.report.overflows ≡ total (λ a. a.report.overflows) (run made_calls u))
  unfolding summed report
  row-calls = (same.state, same.passes, same.overflows)

  -- how many were made, the notices as counts, and what was found
  pub row-notices : let counts : List Count = counted_all [] (flat_map (λ a. notes_of a.report) (run made_calls u)) in
      (made_row.reply ≡ Ok (record { count = length made_calls; first = times_of 0 counts; second = times_of 1 counts }))
      × Notes made_row.report (map (λ c. c.what) counts) × (made_row.events ≡ history made_calls u)
  unfolding summed report
  row-notices =
      let ns = ap (counted_all []) same.notices in (
        ap₂ (λ (n : ℕ) (cs : List Count). Ok (record { count = n; first = times_of 0 cs; second = times_of 1 cs })) all_made ns,
        (ap (λ (cs : List Count). notices (map (λ c. c.what) cs)) ns, ap (λ (cs : List Count). length (map (λ c. c.what) cs)) ns),
        same.events,
      )
