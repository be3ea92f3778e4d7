-- The contract of an exported call: its answer is the plain form of one that meets the contract of the call over parts, on the core
-- that the numbers it was given stand for. Assumes nothing.
-- The next call takes these numbers for the very core that was meant (`core-back` of `plain`).
use Rattle.std.specs.Prelude.{◌≡◌, refl}
use Rattle.std.proofs.Common.{sym, subst}
use Rattle.model.specs.declared.Report.{Report}
use Rattle.device.specs.declared.Core.{Core}
use Rattle.device.specs.Holds.{Arrays, Valid}
use Rattle.ffi.specs.Plain.{core_of, plain_core}
use Rattle.ffi.specs.declared.PlainCore.{PlainCore}
use Rattle.ffi.specs.Replies.{plain_report}
use Rattle.model.specs.Names.{Row}
use Rattle.ffi.specs.Replies.{plain_row}
use Rattle.ffi.specs.declared.results.PlainReply.{PlainReply}
use Rattle.ffi.specs.declared.results.PlainRow.{PlainRow}
use Rattle.ffi.specs.declared.answers.PlainAnswer.{PlainAnswer}
use Rattle.ffi.specs.declared.answers.PlainRowAnswer.{PlainRowAnswer}

abbrev pub plain_answer : Core → PlainReply → Report → PlainAnswer
plain_answer c reply report = record { core = plain_core c; reply = reply; report = plain_report report }

-- `Meets c c' reply report`: the call over parts may answer so, from the core c
pub record Plainly {R : Type 0} (plain : R → PlainReply) (Meets : Core → Core → R → Report → Type 0) (p : PlainCore)
    (r : PlainAnswer) : Type 0 where
  pub core : Core
  pub reply : R
  pub report : Report
  pub meets : Meets (core_of p) core reply report
  pub same : r ≡ plain_answer core (plain reply) report

-- the condition on a state, of the core that a function made of the numbers
pub ok_of : (p : PlainCore) {c : Core} {a : Arrays} → c ≡ core_of p → Valid (core_of p) a → Valid c a
ok_of p {c} {a} e ok = subst (λ (x : Core). Valid x a) (sym e) ok

pub plainly : {R : Type 0} {plain : R → PlainReply} (Meets : Core → Core → R → Report → Type 0) {p : PlainCore} {c c' : Core} {reply : R}
    {report : Report}
    {r : PlainAnswer} → c ≡ core_of p → Meets c c' reply report → r ≡ plain_answer c' (plain reply) report → Plainly plain Meets p r
plainly {R} {plain} Meets {p} {c} {c'} {reply} {report} {r} e m s = record {
  core = c';
  reply = reply;
  report = report;
  meets = subst (λ (x : Core). Meets x c' reply report) e m;
  same = s;
}

-- ---- a row, whose reply has numbers of its own

abbrev pub plain_row_answer : Core → PlainRow → Report → PlainRowAnswer
plain_row_answer c reply report = record { core = plain_core c; reply = reply; report = plain_report report }

pub record PlainlyRow (Meets : Core → Core → Row → Report → Type 0) (p : PlainCore) (r : PlainRowAnswer) : Type 0 where
  pub core : Core
  pub reply : Row
  pub report : Report
  pub meets : Meets (core_of p) core reply report
  pub same : r ≡ plain_row_answer core (plain_row reply) report

pub plainly-row : (Meets : Core → Core → Row → Report → Type 0) {p : PlainCore} {c c' : Core} {reply : Row} {report : Report}
    {r : PlainRowAnswer} → c ≡ core_of p → Meets c c' reply report → r ≡ plain_row_answer c' (plain_row reply) report → PlainlyRow Meets p r
plainly-row Meets {p} {c} {c'} {reply} {report} {r} e m s = record {
  core = c';
  reply = reply;
  report = report;
  meets = subst (λ (x : Core). Meets x c' reply report) e m;
  same = s;
}
