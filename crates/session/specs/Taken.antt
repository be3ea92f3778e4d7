-- A hand-out that was put out gives what the definition's step gives; and the buffer that is lent. Assumes nothing.
use Rattle.std.specs.Prelude.{◌≡◌, refl, List, [], ◌∷◌, ℕ, zero, suc, ◌≤◌, min, length, take}
use Rattle.std.proofs.Common.{ap, ap₂, sym, ◌∙◌, le_of_suc-le-suc, arith}
use Rattle.std.proofs.Math.Option.{some}
use Rattle.text.specs.Ascii.{ascii}
use Rattle.model.specs.Call.{Dated, Undated, Call, Asked, takes}
use Rattle.model.specs.Calls.{take_tx, take_written}
use Rattle.model.proofs.Laws.StepCases.{step-cases}
use Rattle.model.specs.declared.Report.{Report}
use Rattle.model.specs.Names.{Taken}
use Rattle.calls.specs.Answers.{dated_call, undated_call}
use Rattle.uart.specs.declared.Uart.{Uart}
use Rattle.uart.specs.Whole.{meaning, Took}
use Rattle.answers.specs.Reports.{report_text}
use Rattle.session.specs.declared.Session.{Session}
use Rattle.session.specs.Requests.{mark_at, marks_from, lent_of, calls}
use Rattle.session.specs.Sessions.{Gives, InUse}
use Rattle.session.specs.HandOuts.{taken_line, written_line, marks-length, tx-line, written-line}
use Rattle.session.specs.Answers.{call-asked, gives}

module _ {u u' : Uart} {lent out : List ℕ} {reply : Taken} {report : Report} (marks : lent ≡ marks_from 0 (length lent))
    {before : List ℕ} {at : ℕ} {after : List ℕ} {r : Session} where
  pub tx-gives : (cycle : ℕ) → Took (dated_call cycle (take_tx cycle lent)) u u' reply report out
      → InUse (taken_line report out reply) u' before at after r
      → Gives (calls (Asked.call (Call.at cycle (Dated.take_tx lent))) [] (some (meaning u))) before at after r
  tx-gives cycle t i =
      let o = dated_call cycle (take_tx cycle lent) (meaning u) in
      gives t.0 (Asked.call (Call.at cycle (Dated.take_tx lent))) takes (call-asked _ _ ∙ (step-cases (meaning u)).take_tx cycle lent)
      (ap (λ (x : Report). taken_line x out reply) t.0.reports
      ∙ ap₂ (taken_line o.report) t.1 t.0.replies
      ∙ tx-line (length lent) (meaning u) (report_text o.report) cycle lent marks)
      i

  pub written-gives : Took (undated_call (take_written lent)) u u' reply report out
      → InUse (written_line out reply) u' before at after r
      → Gives (calls (Asked.call (Call.undated (Undated.take_written lent))) [] (some (meaning u))) before at after r
  written-gives t i =
      gives t.0 (Asked.call (Call.undated (Undated.take_written lent))) takes (call-asked _ _ ∙ (step-cases (meaning u)).take_written lent)
      (ap₂ written_line t.1 t.0.replies ∙ written-line (length lent) (meaning u) (ascii "\n") lent marks)
      i

-- ---- the buffer that is lent

marks-take : (k i n : ℕ) → k ≤ n → take k (marks_from i n) ≡ marks_from i k
unfolding marks_from
marks-take zero i n h = refl
marks-take (suc k) i zero h = absurd (omega arith)
marks-take (suc k) i (suc n) h = ap (λ (l : List ℕ). mark_at i ∷ l) (marks-take k (suc i) n (le_of_suc-le-suc h))

module _ {all : List ℕ} {n : ℕ} (size : ℕ) (e : all ≡ marks_from 0 8192) (count : n ≡ min size (length all)) where
  pub lent-of : take n all ≡ lent_of size
  lent-of =
      let len : length all ≡ 8192 = ap length e ∙ marks-length 0 8192 in
      let few : n ≡ min size 8192 = count ∙ ap (min size) len in
      ap (take n) e ∙ marks-take n 0 8192 (omega arith) ∙ ap (marks_from 0) few

  lent_length : length (take n all) ≡ min size 8192
  lent_length = ap length lent-of ∙ marks-length 0 (min size 8192)

  pub lent-marks : take n all ≡ marks_from 0 (length (take n all))
  lent-marks = lent-of ∙ ap (marks_from 0) (sym lent_length)

  pub lent-few : length (take n all) ≤ 8192
  lent-few = omega (arith, lent_length)
