-- One call or row, and a whole list of them, each with the state as the one before left it. Assumes nothing.
use Rattle.std.specs.Prelude.{ℕ, List, [], ◌∷◌, ◌++◌}
use Rattle.model.specs.State.{Uart}
use Rattle.model.specs.Events.{Event}
use Rattle.model.specs.Replies.{ReadOf, read_number, write_number, done_number, taken_number}
use Rattle.model.specs.Calls
use Rattle.model.specs.Registers.{gives}
use Rattle.model.specs.Calls.{Outcome, Plan, outcome}
use Rattle.model.specs.Call.{Dated, Undated, Call, date_of, Written, Request, Reply, reads, writes, does, takes, left, pends, rows}
use Rattle.model.specs.Call.{Asked, Ask, Answer}
use Rattle.model.specs.Row.{row_number, row}
use Rattle.model.specs.Names.{Write}

-- document 01's number of an answer, 0 for done; no test refuses has_left or host_pending
unfoldable pub number_of : {H W L : Type 0} → Reply H W L → ℕ
number_of (reads r) = read_number r
number_of (writes r) = write_number r
number_of (does r) = done_number r
number_of (takes t) = taken_number t.taken
number_of (left b) = 0
number_of (pends n) = 0
number_of (rows r) = row_number r

pub record Step (H W L : Type 0) : Type 0 where
  pub answer : Answer H W L
  pub state : Uart H W
  pub events : List (Event H W)

unfoldable pub stepped : {H W L : Type 0} → Outcome (Reply H W L) H W → Step H W L
stepped o = record { answer = record { reply = o.reply; report = o.report }; state = o.state; events = o.events }

-- the same, of an outcome whose own result is turned into a reply
unfoldable pub answering : {R H W L : Type 0} → (R → Reply H W L) → Outcome R H W → Step H W L
answering as-reply o =
    record { answer = record { reply = as-reply o.reply; report = o.report }; state = o.state; events = o.events }

-- the same call, its own result as a reply
unfoldable pub replying : {R H W L : Type 0} → (R → Reply H W L) → Plan R H W → Plan (Reply H W L) H W
replying as-reply p = record {
  test = p.test;
  refuses = λ r. as-reply (p.refuses r);
  changes = p.changes;
  work = λ s. gives (p.work s).notes (p.work s).state (as-reply (p.work s).reply);
}

-- the plan of a call, given those of reads and writes
unfoldable pub plan_by : {R X H W L : Type 0} → (ℕ → R → Uart H W → Plan (ReadOf H) H W) → (ℕ → X → Uart H W → Plan Write H W)
    → Call R X H L → Uart H W → Plan (Reply H W L) H W
plan_by rd wr (Call.at now (Dated.read r)) u = replying reads (rd now r u)
plan_by rd wr (Call.at now (Dated.write x)) u = replying writes (wr now x u)
plan_by rd wr (Call.at now (Dated.receive date bs)) u = replying does (Calls.receive now date bs u)
plan_by rd wr (Call.at now (Dated.take_tx lent)) u = replying takes (Calls.take_tx now lent u)
plan_by rd wr (Call.at now (Dated.machine m)) u = replying does (Calls.machine now m u)
plan_by rd wr (Call.undated (Undated.take_written lent)) u = replying takes (Calls.take_written lent u)
plan_by rd wr (Call.undated Undated.has_left) u = replying left (Calls.has_left u)
plan_by rd wr (Call.undated Undated.host_pending) u = replying pends (Calls.host_pending u)

unfoldable pub writing : ℕ → Written → Uart ℕ ℕ → Plan Write ℕ ℕ
writing now x u = Calls.write now x.offset x.value u

-- a call as a caller makes it, with bytes that are numbers
unfoldable pub plan : Request → Uart ℕ ℕ → Plan (Reply ℕ ℕ ℕ) ℕ ℕ
plan c u = plan_by Calls.read writing c u

unfoldable pub step : Request → Uart ℕ ℕ → Step ℕ ℕ ℕ
step c u = stepped (outcome (date_of c) (plan c u) u)

-- what is asked for, given what a call does
unfoldable pub asked_by : {C H W L : Type 0} → (C → Uart H W → Step H W L) → Asked C W → Uart H W → Step H W L
asked_by Does-Call (Asked.call c) u = Does-Call c u
asked_by Does-Call (Asked.row now bs) u = answering rows (row now bs u)

-- all answers of a list of it
unfoldable pub run_by : {C H W L : Type 0} → (C → Uart H W → Step H W L) → List (Asked C W) → Uart H W → List (Answer H W L)
run_by Does-Call [] u = []
run_by Does-Call (a ∷ cs) u = (asked_by Does-Call a u).answer ∷ run_by Does-Call cs (asked_by Does-Call a u).state

abbrev pub asked : Ask → Uart ℕ ℕ → Step ℕ ℕ ℕ
asked a u = asked_by step a u

abbrev pub run : List Ask → Uart ℕ ℕ → List (Answer ℕ ℕ ℕ)
run cs u = run_by step cs u

-- what was found in a run, in order
unfoldable pub history : List Ask → Uart ℕ ℕ → List (Event ℕ ℕ)
history [] u = []
history (a ∷ cs) u = (asked a u).events ++ history cs (asked a u).state
