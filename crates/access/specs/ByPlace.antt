-- A write by its register: FIFO sends a byte, and any other takes the word; the tests and the work of both. Assumes nothing.
use Rattle.std.specs.Prelude.{◌≡◌, Bool, ℕ, ◌%◌, ◌<◌, Err}
use Rattle.std.proofs.Common.{sym, ◌∙◌}
use Rattle.std.proofs.Math.Path.{ap, ap₂, subst}
use Rattle.std.proofs.Math.Bool.{true, false}
use Rattle.std.proofs.Math.Option.{Option, none, some}
use Rattle.model.specs.Numbers.{choose}
use Rattle.model.specs.State
use Rattle.model.specs.Map.{Register, register_of, is_fifo}
use Rattle.model.specs.Registers.{Access, send_byte, write_register, concluded}
use Rattle.model.specs.Calls
use Rattle.model.specs.Calls.{Outcome, unless, after_settling, send, write_placed, write_at}
use Rattle.model.specs.Plans.{settle_at}
use Rattle.model.specs.Tests.{date_end}
use Rattle.model.specs.Replies.{write_number}
use Rattle.model.proofs.Keeps.EachCall.{write-within}
use Rattle.model.proofs.Refuses.Carried.{send-proper, write-proper}
use Rattle.model.specs.declared.Refusal.{Refusal}
use Rattle.model.specs.declared.Report.{Report}
use Rattle.model.specs.Names.{Write}
use Rattle.replies.specs.declared.notices.Notices.{Notices}
use Rattle.replies.specs.Calls.{write-tests}
use Rattle.replies.specs.Refusals.{sending, dates_only}
use Rattle.device.specs.Holds.{Arrays, abs, Valid}
use Rattle.device.specs.declared.Core.{Core}
use Rattle.calls.specs.Answers.{dated_call, Accesses, Works, Answers, carried, turned-away, in-time, refused_core}
use Rattle.access.specs.Sends.{send-checks, send-period}
use Rattle.access.specs.Writes.{write-period}
use Rattle.calls.specs.declared.answers.CallCore.{CallCore}

-- the tests, from the last carried-out date and the numbers of bytes left and in flight
unfoldable pub tests_at : Bool → ℕ → ℕ → ℕ → ℕ → Option Refusal
tests_at true cycle last left flying = sending cycle last left flying
tests_at false cycle last left flying = dates_only cycle last

-- what is done once the UART is settled
unfoldable pub access_at : Bool → ℕ → ℕ → Register → ℕ → State.Uart ℕ ℕ → Access Write ℕ ℕ
access_at true cycle b p v u = send_byte cycle b u
access_at false cycle b p v u = write_register p v u

abbrev pub work_at : Bool → ℕ → ℕ → Register → ℕ → State.Uart ℕ ℕ → Outcome Write ℕ ℕ
work_at fifo cycle b p v u = after_settling (settle_at cycle u) (λ s. concluded (access_at fifo cycle b p v s))

-- ---- the laws of an access

module _ (cycle b : ℕ) (p : Register) (v : ℕ) where
  pub access-period : (f : Bool) (u : State.Uart ℕ ℕ) → (access_at f cycle b p v u).state.control.period ≡ u.control.period
  unfolding access_at
  access-period true u = send-period cycle b u
  access-period false u = write-period p v u

  access-zero : (f : Bool) (u : State.Uart ℕ ℕ) → write_number (access_at f cycle b p v u).reply ≡ 0
  unfolding access_at
  access-zero true u = (send-proper cycle b u).zero
  access-zero false u = (write-proper p v u).zero

  module _ {f : Bool} (u : State.Uart ℕ ℕ) {c' : Core} {a' : Arrays} {reply : Write} {m : Notices} where
    pub sent-access : f ≡ true → Accesses (λ x. x) (send_byte cycle b u) c' a' reply m
        → Accesses (λ x. x) (access_at f cycle b p v u) c' a' reply m
    unfolding access_at
    sent-access e k = subst (λ (x : Bool). Accesses (λ w. w) (access_at x cycle b p v u) c' a' reply m) (sym e) k

    pub placed-access : f ≡ false → Accesses (λ x. x) (write_register p v u) c' a' reply m
        → Accesses (λ x. x) (access_at f cycle b p v u) c' a' reply m
    unfolding access_at
    placed-access e k = subst (λ (x : Bool). Accesses (λ w. w) (access_at x cycle b p v u) c' a' reply m) (sym e) k

-- ---- the laws of the call

-- every test leaves a date below 2^59
pub tests-in-time : (f : Bool) (cycle last left flying : ℕ) → tests_at f cycle last left flying ≡ none → cycle < date_end
unfolding tests_at sending dates_only
tests-in-time true cycle last left flying e = (in-time cycle last _ e).0
tests-in-time false cycle last left flying e = (in-time cycle last none e).0

module _ (cycle offset v : ℕ) {c : Core} {a : Arrays} (ok : Valid c a) {p : Register} {f : Bool} {b : ℕ}
    (at : p ≡ register_of c.map.offsets offset) (sends : f ≡ is_fifo p)
    (low : b ≡ v % 256) where
  checks : (x : Bool)
      → dated_call cycle (λ u. choose x (send cycle b u) (write_placed cycle p v u)) (abs c a)
      ≡ unless (tests_at x cycle c.control.last c.tx.count c.flight.count) Err (work_at x cycle b p v)
      (abs c a)
  unfolding choose tests_at access_at Calls.carried send write_placed
  checks true = send-checks cycle b ok
  checks false = write-tests cycle (abs c a) p v

  write-checks : dated_call cycle (Calls.write cycle offset v) (abs c a)
      ≡ unless (tests_at f cycle c.control.last c.tx.count c.flight.count) Err (work_at f cycle b p v)
      (abs c a)
  unfolding Calls.write write_at
  write-checks =
      ap (λ (q : Register). dated_call cycle (write_at cycle q v) (abs c a)) (sym at)
      ∙ ap₂ (λ (x : Bool) (n : ℕ). dated_call cycle (λ u. choose x (send cycle n u) (write_placed cycle p v u)) (abs c a)) (sym sends)
      (sym low)
      ∙ checks f

  pub write-carried : {c' : Core} {a' : Arrays} {reply : Write} {report : Report}
      → tests_at f cycle c.control.last c.tx.count c.flight.count ≡ none
      → Works (λ x. x) (work_at f cycle b p v (abs c a)) c' a' reply report
      → Answers (λ x. x) write_number (dated_call cycle (Calls.write cycle offset v) (abs c a)) c a c' a' reply report
  unfolding after_settling concluded
  write-carried t k =
      carried (λ x. x) write_number Err (work_at f cycle b p v) c a write-checks t
      (write-within cycle offset v (abs c a) ok.within) (access-zero cycle b p v f _) k

  pub write-refused : {q : Refusal} {r : CallCore Write} → tests_at f cycle c.control.last c.tx.count c.flight.count ≡ some q
      → r ≡ refused_core c q
      → Answers (λ x. x) write_number (dated_call cycle (Calls.write cycle offset v) (abs c a)) c a r.core a r.reply r.report
  write-refused t same =
      subst (λ (x : CallCore Write). Answers (λ w. w) write_number (dated_call cycle (Calls.write cycle offset v) (abs c a)) c a x.core a
      x.reply x.report) (sym same)
      (turned-away (λ x. x) write_number Err (work_at f cycle b p v) c a write-checks t ok)
