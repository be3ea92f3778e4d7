-- The tests of a row: 2 and 3, and 4 where it has a byte. Assumes nothing.
use Rattle.std.specs.Prelude.{◌≡◌, Bool, ℕ, suc, ◌<◌, ◌≤◌, length, Err}
use Rattle.std.proofs.Math.Path.{refl, ap, ap₂}
use Rattle.std.proofs.Common.{sym, ◌∙◌, arith}
use Rattle.std.proofs.Math.Bool.{true, false}
use Rattle.std.proofs.lemmas.Bool.{false≢true}
use Rattle.std.proofs.Math.Option.{Option, none, some}
use mathlib.Core.List.{List, [], ◌∷◌}
use Rattle.std.proofs.Math.Dec.{ltb}
use borrow.Author.Tests.{leb-false, ltb-false, lt-ltb}
use Rattle.model.specs.State
use Rattle.model.specs.Tests.{date_end, past_end, went_back, transmit_full, refuse_if, refuse_date}
use Rattle.model.specs.Calls.{Outcome, unless, send}
use Rattle.model.specs.Row.{row, row_number, first_test, summed}
use Rattle.model.proofs.Keeps.Dated.{not-refused}
use Rattle.model.proofs.Rows.Within.{row_within}
use Rattle.model.specs.declared.Refusal.{Refusal}
use Rattle.model.specs.declared.Refusal.TheVariants.{TransmitFull}
use Rattle.model.specs.declared.Report.{Report}
use Rattle.model.specs.Names.{Row}
use Rattle.replies.specs.Refusals.{dates, sending, dates_only}
use Rattle.queue.specs.Cursors.{slot_of}
use Rattle.queue.specs.Laws.{elems-length}
use Rattle.device.specs.Holds.{Arrays, sent_at, abs, Valid}
use Rattle.device.specs.declared.Core.{Core}
use Rattle.calls.specs.Answers.{Works, Answers, carried, turned-away, refused_core}
use Rattle.access.specs.ByPlace.{tests_at}
use Rattle.access.specs.RowParts.{full_of, row_work, Passed}
use Rattle.calls.specs.declared.answers.CallCore.{CallCore}

-- what 2 and 3 leave
dates-passed : (cycle last : ℕ) (rest : Option Refusal) → dates cycle last rest ≡ none → (cycle < date_end) × (last ≤ cycle) × (rest ≡ none)
unfolding dates
dates-passed cycle last rest e =
    let past = not-refused (past_end cycle) _ _ e in
    let back = not-refused (went_back last cycle) _ _ past.1 in
    (leb-false _ _ past.0, ltb-false _ _ back.0, back.1)

module _ (cycle : ℕ) (bytes : List ℕ) {c : Core} {a : Arrays} (ok : Valid c a) where
  abbrev tests : Option Refusal
  tests = tests_at (ltb 0 (length bytes)) cycle c.control.last c.tx.count c.flight.count

  tests-are : refuse_date cycle c.control (first_test cycle bytes (abs c a)) ≡ tests
  unfolding first_test send refuse_date tests_at sending dates_only dates
  tests-are = by_bytes bytes
    where
      by_bytes : (bs : List ℕ) → refuse_date cycle c.control (first_test cycle bs (abs c a))
          ≡ tests_at (ltb 0 (length bs)) cycle c.control.last c.tx.count c.flight.count
      by_bytes [] = refl
      by_bytes (b ∷ bs) =
          ap₂ (λ (x y : ℕ). sending cycle c.control.last x y) (elems-length (slot_of a.tx 0) 1152 c.tx)
          (elems-length (sent_at a.gone_at a.flight) 129 c.flight)
          ∙ ap (λ (t : Bool). tests_at t cycle c.control.last c.tx.count c.flight.count)
          (sym (lt-ltb 0 (suc (length bs)) (omega arith)))

  row-checks : row cycle bytes (abs c a) ≡ unless tests Err (row_work cycle bytes) (abs c a)
  unfolding row
  row-checks = ap (λ (t : Option Refusal). unless t Err (row_work cycle bytes) (abs c a)) tests-are

  pub row_carried : {c' : Core} {a' : Arrays} {reply : Row} {report : Report}
      → tests_at (ltb 0 (length bytes)) cycle c.control.last c.tx.count c.flight.count ≡ none
      → Works (λ x. x) (row_work cycle bytes (abs c a)) c' a' reply report
      → Answers (λ x. x) row_number (row cycle bytes (abs c a)) c a c' a' reply report
  unfolding summed row_number
  row_carried t k =
      carried (λ x. x) row_number Err (row_work cycle bytes) c a row-checks t (row_within cycle bytes (abs c a) ok.within) refl k

  pub row-refused : {q : Refusal} {r : CallCore Row}
      → tests_at (ltb 0 (length bytes)) cycle c.control.last c.tx.count c.flight.count ≡ some q → r ≡ refused_core c q
      → Answers (λ x. x) row_number (row cycle bytes (abs c a)) c a r.core a r.reply r.report
  row-refused t e = rw e (turned-away (λ x. x) row_number Err (row_work cycle bytes) c a row-checks t ok)

  pub row-passed : tests_at (ltb 0 (length bytes)) cycle c.control.last c.tx.count c.flight.count ≡ none → Passed cycle c a bytes
  unfolding tests_at sending dates_only
  row-passed t = by-test (ltb 0 (length bytes)) refl t
    where
      by-test : (s : Bool) → ltb 0 (length bytes) ≡ s → tests_at s cycle c.control.last c.tx.count c.flight.count ≡ none
          → Passed cycle c a bytes
      by-test true e t =
          let d = dates-passed cycle c.control.last (refuse_if (full_of c) TransmitFull none) t in
          record { ok = ok; early = d.0; in_order = d.1; room = λ _. (not-refused (full_of c) TransmitFull none d.2).0 }
      by-test false e t =
          let d = dates-passed cycle c.control.last none t in
          record { ok = ok; early = d.0; in_order = d.1; room = λ h. absurd (false≢true (sym e ∙ lt-ltb 0 (length bytes) h)) }
