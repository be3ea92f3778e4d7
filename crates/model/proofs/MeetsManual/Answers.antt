-- What `step` does with a register access that is not refused. Assumes nothing.
use Rattle.std.specs.Prelude.{◌≡◌, ℕ, ◌+◌, ◌%◌, ◌<◌, ◌≤◌, Bool}
use Rattle.std.proofs.Math.Path.{refl, ap}
use Rattle.std.proofs.Common.{ap₂, ◌∙◌, lt-ltb, le-ltb}
use Rattle.std.proofs.Math.Bool.{decide}
use Rattle.std.proofs.Math.Option.{Option, none, some}
use Rattle.std.proofs.Math.ListN.{length}
use Rattle.std.proofs.lemmas.Bool.{lt-leb}
use Rattle.model.specs.Settle.{settle}
use Rattle.model.specs.Numbers.{choose}
use Rattle.model.specs.State.{Uart}
use Rattle.model.specs.Line.{fifo_bytes}
use Rattle.model.specs.Map.{Register, register_of}
use Rattle.model.specs.Registers.{send_byte, sent, dropped}
use Rattle.model.specs.Tests.{date_end, sent_limit, transmit_full, refuse_if, refuse_date}
use Rattle.model.specs.Calls
use Rattle.model.specs.Calls.{Outcome, Plan, unless, carried, outcome, read_placed, write_placed, send, write_at, dated}
use Rattle.model.specs.Call.{Dated, Call, date_of, Written, Reply, reads, writes}
use Rattle.model.specs.Run.{stepped, replying, plan_by, writing, plan, step}
use Rattle.model.specs.Run.{answering}
use Rattle.model.proofs.Laws.Plans.{replied}
use Rattle.model.specs.declared.Refusal.{Refusal}
use Rattle.model.specs.declared.Refusal.TheVariants.{DatePastEnd, DateWentBack, TransmitFull}

-- the state as the settling of a call at `now` leaves it
abbrev pub settled : ℕ → Uart ℕ ℕ → Uart ℕ ℕ
settled now u = (settle now (dated now u)).state

-- neither 2 nor 3
pub record InTime {H W : Type 0} (now : ℕ) (u : Uart H W) : Type 0 where
  pub before_end : now < date_end
  pub not_back : u.control.last ≤ now

pub in-time : {H W : Type 0} {now : ℕ} {u : Uart H W} → InTime now u → (others : Option Refusal)
    → refuse_date now u.control others ≡ others
unfolding refuse_date refuse_if
in-time {now = now} {u = u} h others =
    ap₂ (λ (a b : Bool). refuse_if a DatePastEnd (refuse_if b DateWentBack others)) (lt-leb date_end now h.before_end)
    (le-ltb now u.control.last h.not_back)

pub carried-out : {R H W : Type 0} {o : Option Refusal} (reply : Refusal → R) (work : Uart H W → Outcome R H W) (u : Uart H W) → o ≡ none
    → unless o reply work u ≡ work u
unfolding unless
carried-out reply work u e = ap (λ (o : Option Refusal). unless o reply work u) e

module _ {now : ℕ} {u : Uart ℕ ℕ} (t : InTime now u) where
  -- a call whose own tests pass
  pub carried-answer : {R : Type 0} (as-reply : R → Reply ℕ ℕ ℕ) (p : Plan R ℕ ℕ) → p.test ≡ none
      → stepped (outcome (some now) (replying as-reply p) u) ≡ answering as-reply (carried (some now) p u)
  unfolding outcome
  carried-answer as-reply p e =
      replied as-reply p u (some now)
      ∙ ap (answering as-reply) (carried-out p.refuses (carried (some now) p) u (in-time t p.test ∙ e))

  pub read_answer : (offset : ℕ) (p : Register) → register_of u.map.offsets offset ≡ p
      → step (Call.at now (Dated.read offset)) u ≡ answering reads (carried (some now) (read_placed now p u) u)
  unfolding step plan plan_by date_of Calls.read read_placed
  read_answer offset p e =
      ap (λ (q : Register). stepped (outcome (some now) (replying reads (read_placed now q u)) u)) e
      ∙ carried-answer reads (read_placed now p u) refl

  pub write-answer : (x : Written) (p : Register) → register_of u.map.offsets x.offset ≡ p → (write_at now p x.value u).test ≡ none
      → step (Call.at now (Dated.write x)) u ≡ answering writes (carried (some now) (write_at now p x.value u) u)
  unfolding step plan plan_by date_of writing Calls.write
  write-answer x p e test =
      ap (λ (q : Register). stepped (outcome (some now) (replying writes (write_at now q x.value u)) u)) e
      ∙ carried-answer writes (write_at now p x.value u) test

  -- a write to FIFO that 4 does not refuse
  pub fifo-answer : (x : Written) → register_of u.map.offsets x.offset ≡ Register.fifo
      → length u.tx + length u.in_flight < sent_limit
      → step (Call.at now (Dated.write x)) u ≡ answering writes (carried (some now) (send now (x.value % 256) u) u)
  unfolding write_at decide choose send refuse_if transmit_full
  fifo-answer x e room =
      write-answer x Register.fifo e
      (ap (λ (b : Bool). refuse_if b TransmitFull none) (lt-leb sent_limit (length u.tx + length u.in_flight) room))

  pub clear-answer : (x : Written) → register_of u.map.offsets x.offset ≡ Register.int_clr
      → step (Call.at now (Dated.write x)) u ≡ answering writes (carried (some now) (write_placed now Register.int_clr x.value u) u)
  unfolding write_at decide choose write_placed
  clear-answer x e = write-answer x Register.int_clr e refl

-- 128 bytes in flight or fewer: the byte is sent. More: it is dropped
module _ {H W : Type 0} (now : ℕ) (b : W) (u : Uart H W) where
  pub byte-taken : length u.in_flight ≤ fifo_bytes → send_byte now b u ≡ sent now b u
  unfolding send_byte choose
  byte-taken h = ap (λ (test : Bool). choose test (dropped u) (sent now b u)) (le-ltb fifo_bytes (length u.in_flight) h)

  pub byte-dropped : fifo_bytes < length u.in_flight → send_byte now b u ≡ dropped u
  unfolding send_byte choose
  byte-dropped h = ap (λ (test : Bool). choose test (dropped u) (sent now b u)) (lt-ltb fifo_bytes (length u.in_flight) h)
