-- The contract of a call that fills a lent buffer: its answer, and every byte of the buffer. Assumes nothing.
use Rattle.std.specs.Prelude.{◌≡◌, List, [], map, Ok, Err}
use Rattle.std.proofs.Math.Path.{sym, ap, subst}
use Rattle.std.proofs.Common.{◌∙◌, arith}
use Rattle.std.proofs.Math.Option.{Option, none, some}
use Prim.Native.Nat.{ℕ}
use Rattle.model.specs.State
use Rattle.model.specs.Replies.{no_report, Take, contents, taken_number}
use Rattle.model.specs.Calls.{Outcome, refusing, unless, not_taken}
use Rattle.model.specs.Limits.{Within}
use Rattle.model.specs.declared.Refusal.{Refusal}
use Rattle.model.specs.declared.Report.{Report}
use Rattle.model.specs.Names.{Taken}
use Rattle.replies.specs.Notices.{noted}
use Rattle.queue.specs.Cursors.{Held, empty}
use Rattle.queue.specs.Laws.{empty-held}
use Rattle.queue.specs.declared.Cursor.{Cursor}
use Rattle.device.specs.Holds.{Arrays, abs, Shape, Valid}
use Rattle.device.specs.declared.Core.{Core}
use Rattle.calls.specs.Answers.{Answers, Works, answer_core, refused_core, carried, turned-away}
use Rattle.calls.specs.declared.answers.CallCore.{CallCore}

-- the number of a reply
abbrev pub take_number : Take ℕ ℕ → ℕ
take_number t = taken_number t.taken

-- the whole call
abbrev pub TakesWith : (State.Uart ℕ ℕ → Outcome (Take ℕ ℕ) ℕ ℕ) → Core → Arrays → Core → Arrays → Taken → Report → List ℕ → Type 0
TakesWith call c a c' a' reply report out =
    Answers (λ t. t.taken) take_number (call (abs c a)) c a c' a' reply report × (out ≡ contents (call (abs c a)).reply)

-- the work of one that is carried out
abbrev pub TakeWorks : Outcome (Take ℕ ℕ) ℕ ℕ → Core → Arrays → Taken → Report → List ℕ → Type 0
TakeWorks o c' a' reply report out = Works (λ t. t.taken) o c' a' reply report × (out ≡ contents o.reply)

-- ---- the laws

pub emptied-shape : (c : Core) (a : Arrays) (flight : Cursor) → Held 129 flight → Shape c a
    → Shape
    (record {
      map = c.map;
      control = c.control;
      receiving = c.receiving;
      byte = c.byte;
      flight = flight;
      tx = empty;
      host = c.host;
      runs = c.runs;
      rx = c.rx;
    }) a
emptied-shape c a flight f k = let tx = empty-held 1152 (omega arith) in search

-- ---- the structs

abbrev pub taken_core : Core → ℕ → ℕ → ℕ → CallCore Taken
taken_core c n passes overflows = answer_core c (Ok n) passes overflows (noted [])

abbrev pub undated_core : Core → ℕ → CallCore Taken
undated_core c n = record { core = c; reply = Ok n; report = no_report }

-- ---- refused, or carried out

module _ {call : Outcome (Take ℕ ℕ) ℕ ℕ} {tests : Option Refusal} (lent : List ℕ) (work : State.Uart ℕ ℕ → Outcome (Take ℕ ℕ) ℕ ℕ)
    (c : Core) (a : Arrays)
    (e : call ≡ unless tests (not_taken lent) work (abs c a)) where
  -- no test refuses
  pub take-carried : {c' : Core} {a' : Arrays} {reply : Taken} {report : Report} {out : List ℕ} → tests ≡ none → Within call.state
      → take_number (work (abs c a)).reply ≡ 0 → TakeWorks (work (abs c a)) c' a' reply report out
      → Answers (λ t. t.taken) take_number call c a c' a' reply report × (out ≡ contents call.reply)
  unfolding unless
  take-carried t w z k =
      let done : call ≡ work (abs c a) = e ∙ ap (λ (x : Option Refusal). unless x (not_taken lent) work (abs c a)) t in (
        carried (λ t. t.taken) take_number (not_taken lent) work c a e t w z k.0,
        k.1 ∙ sym (ap (λ (x : Outcome (Take ℕ ℕ) ℕ ℕ). contents x.reply) done),
      )

  -- a test refuses, and the buffer keeps every byte
  pub take-refused : {q : Refusal} {r : CallCore Taken} → tests ≡ some q → Valid c a → r ≡ refused_core c q
      → Answers (λ t. t.taken) take_number call c a r.core a r.reply r.report × (lent ≡ contents call.reply)
  unfolding unless refusing not_taken contents
  take-refused {q} t ok same =
      let done : call ≡ refusing (not_taken lent q) (abs c a) =
      e ∙ ap (λ (x : Option Refusal). unless x (not_taken lent) work (abs c a)) t in (
        subst (λ (x : CallCore Taken). Answers (λ t. t.taken) take_number call c a x.core a x.reply x.report) (sym same)
            (turned-away (λ t. t.taken) take_number (not_taken lent) work c a e t ok),
        sym (ap (λ (x : Outcome (Take ℕ ℕ) ℕ ℕ). contents x.reply) done),
      )
