-- `queries::has_left` meets its contract. Assumes nothing.
use mathlib.Core.Path.{ap}
use Rattle.model.specs.Run.{number_of}
use Rattle.calls.specs.Undated.{left_reply, has-left-of}
use Rattle.calls.proofs.queries.has_left.Goals as goal

pub returns : goal.returns
unfolding number_of
returns c = λ a. ap left_reply (has-left-of c.args.core a)
