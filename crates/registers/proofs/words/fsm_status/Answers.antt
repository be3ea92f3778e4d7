-- `words::fsm_status` meets its contract. Assumes nothing.
use mathlib.Core.Path.{sym}
use native.Mathlib.Omega.{arith}
use borrow.Author.Tests.{lt-ltb, le-ltb}
use Rattle.model.proofs.Laws.Choose.{choose-true, choose-false}
use Rattle.model.specs.Registers.{fsm_status}
use Rattle.registers.proofs.words.fsm_status.Goals as goal

pub returns-then-flying-eq0 : goal.returns-then-flying-eq0
unfolding fsm_status
returns-then-flying-eq0 c = sym (choose-false _ _ (le-ltb 0 c.args.flying (omega arith)))

pub returns-else-flying-eq0 : goal.returns-else-flying-eq0
unfolding fsm_status
returns-else-flying-eq0 c = sym (choose-true _ _ (lt-ltb 0 c.args.flying (omega arith)))
