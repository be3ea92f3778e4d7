-- What the UART answered to a call or a row, put out, gives what the definition gives. Assumes nothing.
use Rattle.std.specs.Prelude.{◌≡◌, refl, Bool, true, false, Ok, Err}
use Rattle.std.proofs.Math.Path.{ap, sym}
use Rattle.std.proofs.Common.{ap₂, subst, ◌∙◌}
use Rattle.std.proofs.Math.Option.{Option, none, some}
use mathlib.Core.List.{List, []}
use Prim.Native.Nat.{ℕ}
use Rattle.text.specs.Output.{Put}
use Rattle.text.specs.Pick.{pick}
use Rattle.trace.specs.declared.names.Name.{Name}
use Rattle.model.specs.State
use Rattle.model.specs.SetUp.{new}
use Rattle.model.specs.Call.{Undated, Call, Request, Asked, Ask, Reply, rows}
use Rattle.model.specs.Calls.{Outcome, unless, carried, outcome, quiet, has_left, host_pending}
use Rattle.model.specs.Row.{row}
use Rattle.model.specs.Run.{Step, answering, step, asked_by, asked}
use Rattle.model.proofs.Laws.StepCases.{step-cases}
use Rattle.model.specs.declared.Refusal.{Refusal}
use Rattle.model.specs.declared.Report.{Report}
use Rattle.model.specs.Names.{SetUp}
use Rattle.calls.specs.Answers.{undated_call, Answers}
use Rattle.calls.specs.Undated.{left_reply, pending_reply}
use Rattle.calls.specs.declared.queries.HasLeft.{HasLeft}
use Rattle.calls.specs.declared.queries.HostPending.{HostPending}
use Rattle.uart.specs.declared.Uart.{Uart}
use Rattle.uart.specs.Whole.{arrays_of, meaning, Good, SetsUp}
use Rattle.answers.specs.Replies.{set_up_text, has_left_text, host_pending_text}
use Rattle.session.specs.declared.Session.{Session}
use Rattle.session.specs.Requests.{command_of, end_text, reply_text, answer_text, Next, settled, sets_up, calls}
use Rattle.session.specs.Requests.{carried_out}
use Rattle.session.specs.Lines.{no_uart}
use Rattle.session.specs.Sessions.{stands_for, moved_to, set_up, Gives, InUse}

-- what a call before the first set-up gives, whatever its last word and its bytes
abbrev pub GivesFirst : Name → List ℕ → List ℕ → List ℕ → ℕ → List ℕ → Session → Type 0
GivesFirst name ns s before at after r =
    (last : ℕ) (bytes : List ℕ) → Gives (carried_out (command_of name ns last bytes s) (no_uart s) none) before at after r

-- ---- laws

-- the session after a call is the UART that it gave back
pub in_use : {text : List ℕ} {u : Uart} {before : List ℕ} {at : ℕ} {after : List ℕ} {r : Session} (next : Next)
    → text ≡ next.text → some (meaning u) ≡ next.device → Good u → InUse text u before at after r → Gives next before at after r
in_use {text} {u} {before} {at} {after} {r} next t d g i = record {
  put = subst (λ (l : List ℕ). Put l before at after r.at) t i.put;
  device = ap stands_for i.session ∙ d;
  good = subst (λ (s : Session). Good s.uart) (sym i.session) g;
}

-- a call that is asked for is its step, and a row its outcome
pub call-asked : (c : Request) (u : State.Uart ℕ ℕ) → asked (Asked.call c) u ≡ step c u
unfolding asked_by
call-asked c u = refl

pub row-asked : (now : ℕ) (bytes : List ℕ) (u : State.Uart ℕ ℕ) → asked (Asked.row now bytes) u ≡ answering rows (row now bytes u)
unfolding asked_by
row-asked now bytes u = refl

module _ {X R : Type 0} {view : X → R} {number : X → ℕ} {o : Outcome X ℕ ℕ} {u u' : Uart} {reply : R} {report : Report}
    (a : Answers view number o u.core (arrays_of u) u'.core (arrays_of u') reply report) where
  -- of a call or a row whose step is this outcome
  pub gives : (q : Ask) (reply-of : X → Reply ℕ ℕ ℕ) {text : List ℕ} → asked q (meaning u) ≡ answering reply-of o
      → text ≡ reply_text (end_text q o.report) o.report (reply-of o.reply)
      → {before : List ℕ} {at : ℕ} {after : List ℕ} {r : Session} → InUse text u' before at after r
      → Gives (calls q [] (some (meaning u))) before at after r
  unfolding answering
  gives q reply-of e t i =
      in_use (calls q [] (some (meaning u)))
      (t ∙ sym (ap (λ (s : Step ℕ ℕ ℕ). answer_text q s.answer) e))
      (ap some a.state ∙ sym (ap (λ (s : Step ℕ ℕ ℕ). some s.state) e))
      a.ok i

  -- the text of what the call gave back
  pub said : (text : Report → R → List ℕ) → text report reply ≡ text o.report (view o.reply)
  said text = ap₂ text a.reports a.replies

-- ---- what is put out, and the session after it

module _ {text before : List ℕ} {at : ℕ} {after : List ℕ} {place : ℕ} (p : Put text before at after place) where
  pub used : {u : Uart} {r : Session} → r ≡ set_up u place → InUse text u before at after r
  used {u} {r} e = record {
    put = subst (λ (s : Session). Put text before at after s.at) (sym e) p;
    session = e ∙ sym (ap (λ (s : Session). set_up u s.at) e);
  }

  -- the session as it was, but for the output
  pub moved : (next : Next) (s : Session) {r : Session} → text ≡ next.text → stands_for s ≡ next.device → Good s.uart
      → r ≡ moved_to place s → Gives next before at after r
  moved next s {r} t d g e = record {
    put =
        subst (λ (x : Session). Put next.text before at after x.at) (sym e)
        (subst (λ (l : List ℕ). Put l before at after place) t p);
    device = ap stands_for e ∙ d;
    good = subst (λ (x : Session). Good x.uart) (sym e) g;
  }

pub gives_as : {n m : Next} {before : List ℕ} {at : ℕ} {after : List ℕ} {r : Session} → n ≡ m → Gives n before at after r
    → Gives m before at after r
gives_as {n} {m} {before} {at} {after} {r} e g = subst (λ (x : Next). Gives x before at after r) e g

-- a call by what its name is found to be
module _ (ns : List ℕ) (last : ℕ) (bytes s : List ℕ) (u : State.Uart ℕ ℕ) where
  pub told-as : {name n : Name} → name ≡ n
      → carried_out (command_of n ns last bytes s) [] (some u) ≡ carried_out (command_of name ns last bytes s) [] (some u)
  told-as e = sym (ap (λ (m : Name). carried_out (command_of m ns last bytes s) [] (some u)) e)

-- the session of a UART that is set up, and of none
module _ (s : Session) where
  pub is-ready : s.ready ≡ true → stands_for s ≡ some (meaning s.uart)
  is-ready e = ap (λ (b : Bool). pick b (some (meaning s.uart)) none) e

  pub not-ready : s.ready ≡ false → stands_for s ≡ none
  not-ready e = ap (λ (b : Bool). pick b (some (meaning s.uart)) none) e

-- ---- set-up

module _ {offsets resets : List ℕ} {u : Uart} {reply : SetUp} (made : SetsUp offsets resets u reply)
    {before : List ℕ} {at : ℕ} {after : List ℕ} {place : ℕ} (p : Put (set_up_text reply) before at after place) where
  pub set-up-ready : (d : Option (State.Uart ℕ ℕ)) {r : Session} → reply ≡ (Ok tt) → r ≡ set_up u place
      → Gives (sets_up offsets resets d) before at after r
  set-up-ready d ready e =
      in_use (sets_up offsets resets d) (ap set_up_text made.replies)
      (ap some made.state ∙ ap (λ (x : SetUp). settled x (new offsets resets) d) (sym ready ∙ made.replies))
      (made.good ready) (used p e)

  pub set-up-refused : (s : Session) {r : Session} (q : Refusal) → reply ≡ Err q → Good s.uart → r ≡ moved_to place s
      → Gives (sets_up offsets resets (stands_for s)) before at after r
  set-up-refused s q refused g e =
      moved p (sets_up offsets resets (stands_for s)) s (ap set_up_text made.replies)
      (ap (λ (x : SetUp). settled x (new offsets resets) (stands_for s)) (sym refused ∙ made.replies)) g e

-- ---- the two calls that change nothing

module _ (u : Uart) (good : Good u) {before : List ℕ} {at : ℕ} {after : List ℕ} {place : ℕ} {r : Session} (e : r ≡ set_up u place) where
  pub left-gives : {a : HasLeft} → a ≡ left_reply (undated_call has_left (meaning u)).reply
      → Put (has_left_text a.has_left) before at after place
      → Gives (calls (Asked.call (Call.undated Undated.has_left)) [] (some (meaning u))) before at after r
  unfolding answering outcome unless carried has_left quiet
  left-gives a p =
      let same = sym (call-asked _ (meaning u) ∙ (step-cases (meaning u)).has_left) in
      in_use (calls (Asked.call (Call.undated Undated.has_left)) [] (some (meaning u)))
      (ap (λ (x : HasLeft). has_left_text x.has_left) a
      ∙ ap (λ (s : Step ℕ ℕ ℕ). answer_text (Asked.call (Call.undated Undated.has_left)) s.answer) same)
      (ap (λ (s : Step ℕ ℕ ℕ). some s.state) same) good (used p e)

  pub pending-gives : {a : HostPending} → a ≡ pending_reply (undated_call host_pending (meaning u)).reply
      → Put (host_pending_text a.count) before at after place
      → Gives (calls (Asked.call (Call.undated Undated.host_pending)) [] (some (meaning u))) before at after r
  unfolding answering outcome unless carried host_pending quiet
  pending-gives a p =
      let same = sym (call-asked _ (meaning u) ∙ (step-cases (meaning u)).host_pending) in
      in_use (calls (Asked.call (Call.undated Undated.host_pending)) [] (some (meaning u)))
      (ap (λ (x : HostPending). host_pending_text x.count) a
      ∙ ap (λ (s : Step ℕ ℕ ℕ). answer_text (Asked.call (Call.undated Undated.host_pending)) s.answer) same)
      (ap (λ (s : Step ℕ ℕ ℕ). some s.state) same) good (used p e)
