-- What `step` does with a call is the call's own plan, carried out, its result as a reply. Assumes nothing.
use Rattle.std.specs.Prelude.{◌≡◌, ℕ, List}
use Rattle.std.proofs.Math.Option.{none, some}
use Rattle.model.specs.State.{Uart}
use Rattle.model.specs.Calls
use Rattle.model.specs.Calls.{outcome}
use Rattle.model.specs.Call.{Machine, Dated, Undated, Call, date_of, Written, reads, writes, does, takes, left, pends}
use Rattle.model.specs.Run.{plan_by, writing, plan, step}
use Rattle.model.specs.Run.{answering}
use Rattle.model.proofs.Laws.Plans.{replied}

pub record StepCases (u : Uart ℕ ℕ) : Type 0 where
  pub read : (now offset : ℕ) → step (Call.at now (Dated.read offset)) u ≡ answering reads (outcome (some now) (Calls.read now offset u) u)
  pub write : (now : ℕ) (x : Written) → step (Call.at now (Dated.write x)) u
      ≡ answering writes (outcome (some now) (Calls.write now x.offset x.value u) u)
  pub receive : (now date : ℕ) (bytes : List ℕ) → step (Call.at now (Dated.receive date bytes)) u
      ≡ answering does (outcome (some now) (Calls.receive now date bytes u) u)
  pub take_tx : (now : ℕ) (lent : List ℕ) → step (Call.at now (Dated.take_tx lent)) u
      ≡ answering takes (outcome (some now) (Calls.take_tx now lent u) u)
  pub machine : (now : ℕ) (m : Machine) → step (Call.at now (Dated.machine m)) u
      ≡ answering does (outcome (some now) (Calls.machine now m u) u)
  pub take_written : (lent : List ℕ) → step (Call.undated (Undated.take_written lent)) u
      ≡ answering takes (outcome none (Calls.take_written lent u) u)
  pub has_left : step (Call.undated Undated.has_left) u ≡ answering left (outcome none (Calls.has_left u) u)
  pub host_pending : step (Call.undated Undated.host_pending) u ≡ answering pends (outcome none (Calls.host_pending u) u)

-- in every state
pub step-cases : (u : Uart ℕ ℕ) → StepCases u
unfolding step plan plan_by date_of writing
step-cases u = record {
  read = λ now offset. replied _ _ u _;
  write = λ now x. replied _ _ u _;
  receive = λ now date bytes. replied _ _ u _;
  take_tx = λ now lent. replied _ _ u _;
  machine = λ now m. replied _ _ u _;
  take_written = λ lent. replied _ _ u _;
  has_left = replied _ _ u _;
  host_pending = replied _ _ u _;
}
