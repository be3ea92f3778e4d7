-- `queries::pending` meets its contract, by cases on the line. Assumes nothing.
use Rattle.calls.specs.Undated.{pending-free, pending-on}
use Rattle.calls.proofs.queries.pending.Goals as goal

pub returns-in-None : goal.returns-in-None
returns-in-None c = λ a. pending-free c.args.core a c.in-None.is

pub returns-in-Some : goal.returns-in-Some
returns-in-Some c = λ a. pending-on c.args.core a _ c.in-Some.is
